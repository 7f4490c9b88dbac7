use Rattle.conflicts.proofs.SetsLaws.{OverFirst}
use Rattle.conflicts.proofs.sets.Sets.over_job.Given as goal

abbrev pub invariant-loop-o : goal.invariant-loop-o
invariant-loop-o l = OverFirst l.self.table.now.kind l.self.writers l.j l.k l.o l.all
