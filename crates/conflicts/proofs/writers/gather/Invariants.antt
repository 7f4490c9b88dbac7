use Rattle.conflicts.specs.Found.{Gathered}
use Rattle.conflicts.proofs.writers.gather.Given as goal

abbrev pub invariant-loop-i : goal.invariant-loop-i
invariant-loop-i l = Gathered l.table.kind l.table.object l.i l.from l.seen
