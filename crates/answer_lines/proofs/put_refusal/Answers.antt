use Rattle.text.proofs.PutLaws.{puts_same}
use Rattle.answer_lines.proofs.put_refusal.Goals as goal

pub returns : goal.returns
returns c = search puts_same
