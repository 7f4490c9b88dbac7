use Rattle.text.specs.Text.{SameBuffer}
use Rattle.text.proofs.PutLaws.{puts_same, same_trans}
use Rattle.answer_lines.proofs.buffers.put_answer.Goals.{in-Ok, in-Err}
use Rattle.answer_lines.proofs.buffers.put_answer.Goals as goal

pub loop-b-init : goal.loop-b-init
loop-b-init g c = same_trans first (puts_same _ c.put_word-2.ensures)
  where
    -- with the number, or with the refusal
    first : SameBuffer c.args.out.now c.match-question.out
    first = elim c.match-question.branch [
      | in-Ok w ↦ rw w.out-is (search (puts_same, same_trans))
      | in-Err w ↦ rw w.out-is (search (puts_same, same_trans))
    ]
