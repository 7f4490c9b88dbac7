use Rattle.text.proofs.PutLaws.{puts_same, same_trans}
use Rattle.survey.proofs.lines.put_named.Goals as goal

pub returns : goal.returns
returns c = search (puts_same, same_trans)
