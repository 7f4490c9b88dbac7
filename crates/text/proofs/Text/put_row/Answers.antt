use Rattle.text.proofs.LineLaws.{row_begun, row_put, row_all, row_on}
use Rattle.text.proofs.Text.put_row.Goals as goal

pub loop-n-init : goal.loop-n-init
loop-n-init c = row_begun _ _

pub returns-then-ended : goal.returns-then-ended
returns-then-ended c = row_put c.loop-n.invariant c.if-ended.true

pub loop-n-preserved : goal.loop-n-preserved
loop-n-preserved c =
    row_on c.loop-n.invariant c.loop-n-test.true c.if-ended.false c.put.ensures (rw c.from.ensures at c.put_number.ensures)

pub returns : goal.returns
returns c = row_all c.loop-n.invariant c.loop-n-test.false
