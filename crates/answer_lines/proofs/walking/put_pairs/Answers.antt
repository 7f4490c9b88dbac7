use Rattle.text.proofs.PutLaws.{puts_same, same_trans}
use Rattle.answer_lines.proofs.walking.put_pairs.Goals as goal

pub loop-earlier-preserved : goal.loop-earlier-preserved
loop-earlier-preserved c = search (puts_same, same_trans)
