use Rattle.conflicts.specs.Found.{Handed}
use Rattle.conflicts.proofs.writers.hand_out.Given as goal

abbrev pub invariant-loop-i : goal.invariant-loop-i
invariant-loop-i l = Handed l.table.object l.seen l.i l.from l.initial.writer-items l.writer-items
