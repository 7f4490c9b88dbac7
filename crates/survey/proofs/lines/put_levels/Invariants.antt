use Rattle.text.specs.Text.{SameBuffer}
use Rattle.survey.proofs.lines.put_levels.Given as goal

abbrev pub invariant-loop-level : goal.invariant-loop-level
invariant-loop-level l = SameBuffer l.fn.out l.out
