-- `work_out` meets its contract, by what its parts ensure.
-- Assumes nothing.
use Rattle.std.proofs.Common.{of_calls}
use Rattle.conflicts.specs.Found.{Over, Turned, Any}
use Rattle.conflicts.proofs.FoundLaws.{stands_below, sets_found}
use Rattle.conflicts.proofs.SetsLaws.{filled_as}
use Rattle.conflicts.proofs.sets.work_out.Goals as goal

pub find_writers-requires-clause-writes_below : goal.find_writers-requires-clause-writes_below
find_writers-requires-clause-writes_below c = stands_below _ _ _ _ c.requires.stands

pub returns-clause-found : goal.returns-clause-found
returns-clause-found c k =
    let table = c.args.sets.now.table.now in
    let writers = c.find_writers.new.writers in
    let ww = filled_as _ (Over table.kind writers 2) _ _ (λ j m f. search of_calls) c.fill-sets.ensures in
    let rw_of = filled_as _ (Over table.kind writers 1) _ _ (λ j m f. search of_calls) c.fill-sets-2.ensures in
    let wr = filled_as _ (Turned table.jobs c.fill-sets-2.result) _ _ (λ j m f. search of_calls) c.fill-sets-3.ensures in
    let clash = filled_as _ (Any c.fill-sets.result c.fill-sets-3.result c.fill-sets-2.result) _ _ (λ j m f. search of_calls) c.fill-sets-4.ensures in
    sets_found _ _ _ _ _ _ _ _ c.find_writers.ensures ww rw_of wr clash k.js k.size k.laid
