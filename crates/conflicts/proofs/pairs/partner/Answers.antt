-- `partner` meets its contract: what is found is the first that passes.
-- Assumes nothing.
use mathlib.Core.Path.{◌≡◌}
use mathlib.Core.Bool.{true, false}
use native.Mathlib.Omega.{arith}
use Rattle.std.proofs.Common.{of_calls}
use Rattle.std.proofs.lemmas.Iterator.{first_from_Range}
use Rattle.conflicts.proofs.FitsLaws.{does?, first_partner}
use Rattle.conflicts.proofs.pairs.partner.Goals as goal

pub returns : goal.returns
returns c js laid =
    let args = c.args in
    let p = does? args.table.now.kind args.table.now.object args.i args.b args.j args.any in
    first_partner _ _ _ _ _ _ (omega arith) js laid _
    (first_from_Range _ _ _ _ (λ a. p a ≡ true) (λ a. p a ≡ false) c.find.ensures.ran (λ a f m. search of_calls) (λ a f m. search of_calls))
