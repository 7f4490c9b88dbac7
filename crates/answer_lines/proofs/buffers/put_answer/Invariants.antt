use Rattle.text.specs.Text.{SameBuffer}
use Rattle.answer_lines.proofs.buffers.put_answer.Given as goal

abbrev pub invariant-loop-b : goal.invariant-loop-b
invariant-loop-b g l = SameBuffer l.fn.out l.out
