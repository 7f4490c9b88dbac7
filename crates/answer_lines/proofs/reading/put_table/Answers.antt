use Rattle.text.proofs.PutLaws.{puts_same, same_trans}
use Rattle.answer_lines.proofs.reading.put_table.Goals as goal

pub loop-j-init : goal.loop-j-init
loop-j-init c = search (puts_same, same_trans)
