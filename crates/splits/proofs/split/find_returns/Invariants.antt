use Rattle.std.specs.Prelude.{get_or}
use Rattle.splits.proofs.ReturnSteps.{Going}
use Rattle.splits.proofs.split.find_returns.Given as goal

abbrev pub invariant-loop-b : goal.invariant-loop-b
invariant-loop-b l = Going l.sets.table.now.kind l.sets.writers l.t1 l.level (get_or l.sets.wr l.t1 0) l.last l.all l.b
