use Rattle.conflicts.proofs.SetsLaws.{TurnedFirst}
use Rattle.conflicts.proofs.sets.Sets.turned.Given as goal

abbrev pub invariant-loop-k : goal.invariant-loop-k
invariant-loop-k l = TurnedFirst l.self.rw l.j l.k l.all
