use Rattle.text.proofs.PutLaws.{puts_line}
use Rattle.text.proofs.Text.put_refusal.Goals as goal

pub returns : goal.returns
returns c =
    puts_line _ _ _ _ c.put_word.ensures (rw c.from.ensures at c.put_number.ensures) c.put_word-2.ensures c.put_number-2.ensures
