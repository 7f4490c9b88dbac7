use Rattle.text.specs.Text.{SameBuffer}
use Rattle.answer_lines.proofs.walking.put_pairs.Given as goal

abbrev pub invariant-loop-earlier : goal.invariant-loop-earlier
invariant-loop-earlier l = SameBuffer l.fn.out l.out
