use Rattle.conflicts.specs.Sets.{Has}
use Rattle.splits.specs.Splits.{ssi?}
use Rattle.splits.proofs.guard.at_ssi.Given as goal

abbrev pub invariant-loop-j : goal.invariant-loop-j
invariant-loop-j l = Has l.all (ssi? l.j l.levels)
