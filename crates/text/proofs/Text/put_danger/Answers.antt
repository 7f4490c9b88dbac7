use Rattle.text.proofs.PutLaws.{puts_line}
use Rattle.text.proofs.Text.put_danger.Goals as goal

pub returns : goal.returns
returns c = puts_line _ _ _ _ c.put_word.ensures c.put_row.ensures c.put_word-2.ensures c.put_row-2.ensures
