use Rattle.text.proofs.PutLaws.{puts_same, same_trans}
use Rattle.answer_lines.proofs.reading.put_job.Goals as goal

pub loop-kind-init : goal.loop-kind-init
loop-kind-init c = search (puts_same, same_trans)

pub loop-kind-preserved : goal.loop-kind-preserved
loop-kind-preserved c = search (puts_same, same_trans)
