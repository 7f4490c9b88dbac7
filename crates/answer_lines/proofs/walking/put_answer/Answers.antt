use Rattle.text.proofs.PutLaws.{puts_same, same_trans}
use Rattle.answer_lines.proofs.walking.put_answer.Goals as goal

pub returns-in-Ok-Some : goal.returns-in-Ok-Some
returns-in-Ok-Some c = search (puts_same, same_trans)
