use Rattle.splits.proofs.SplitSteps.{Going}
use Rattle.splits.proofs.split.find_splits.Given as goal

abbrev pub invariant-loop-b : goal.invariant-loop-b
invariant-loop-b l = Going l.sets.table.now.kind l.sets.writers l.sets.ww l.sets.rw l.sets.wr l.t1 l.level l.watch l.first l.last l.closed l.b
