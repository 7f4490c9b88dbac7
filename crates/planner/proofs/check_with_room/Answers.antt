use Rattle.std.proofs.Common.{◌≡◌, Err, rules}
use Rattle.planner.proofs.AnswerLaws.{by_room, sheet_refused, sheet_checked}
use Rattle.planner.proofs.check_with_room.Goals as goal

pub returns-in_err-read : goal.returns-in_err-read
returns-in_err-read c =
    let err = c.in_err-read in
    let is : c.from_residual.result ≡ Err err.field-0.0 = search rules in
    λ s h. rw is (sheet_refused (by_room _) s _ h _ err.was)

pub returns : goal.returns
returns c = λ s h. sheet_checked (by_room _) s _ h c.in_ok-read.was _ c.check_room.ensures
