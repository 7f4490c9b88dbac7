use mathlib.Core.Path.{sym, ◌∙◌}
use Rattle.sheet.specs.Marks.{unmarked_unseen}
use Rattle.sheet.proofs.OperationLaws.{seen_is}
use Rattle.sheet.proofs.operations.is_twice.Goals as goal

pub returns-then-marks-slot : goal.returns-then-marks-slot
returns-then-marks-slot c = seen_is _ _ _ _ _ _ _ c.is_seen.ensures

pub returns-else-marks-slot : goal.returns-else-marks-slot
returns-else-marks-slot c =
    let e = c.if-marks-slot.false in
    e ∙ sym (unmarked_unseen _ _ _ _ _ _ _ c.requires.1 (rw c.slot.ensures.0 at e))
