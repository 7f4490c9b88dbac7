use mathlib.Core.Path.{sym}
use Rattle.sheet.proofs.FillLaws.{answer_refused, answer_read}
use Rattle.sheet.proofs.read_sheet.Goals as goal

pub returns-then-is_err : goal.returns-then-is_err
returns-then-is_err c = answer_refused _ _ _ _ c.fill-reading.ensures (sym c.if-is_err.ensures.value) c.empty-table-then-is_err.ensures

pub returns-else-is_err : goal.returns-else-is_err
returns-else-is_err c = answer_read _ _ _ c.fill-reading.ensures (sym c.if-is_err.ensures.value)
