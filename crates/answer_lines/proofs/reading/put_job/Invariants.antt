use Rattle.text.specs.Text.{SameBuffer}
use Rattle.answer_lines.proofs.reading.put_job.Given as goal

abbrev pub invariant-loop-kind : goal.invariant-loop-kind
invariant-loop-kind l = SameBuffer l.fn.out l.out
