use Rattle.text.specs.Text.{SameBuffer}
use Rattle.answer_lines.proofs.reading.put_table.Given as goal

abbrev pub invariant-loop-j : goal.invariant-loop-j
invariant-loop-j l = SameBuffer l.fn.out l.out
