use Rattle.text.proofs.PutLaws.{puts_more}
use Rattle.text.proofs.Text.put_word.Goals as goal

pub loop-b-preserved : goal.loop-b-preserved
loop-b-preserved c = puts_more _ _ c.loop-b-test.true c.loop-b.invariant c.put.ensures
