use Prim.Native.Nat.{◌+◌, ◌-◌, ◌^◌, ◌<◌}
use Rattle.jobset.specs.Jobset.{size}
use Rattle.chain.proofs.Spreads.{Spreading}
use Rattle.chain.proofs.Paths.spread.Given as goal

abbrev pub invariant-loop-todo : goal.invariant-loop-todo
invariant-loop-todo l = (l.seen < 2 ^ 32) × (l.todo < 2 ^ 32) × Spreading l.self.clash.now l.self.shut l.from l.seen l.todo

abbrev pub decreases-loop-todo : goal.decreases-loop-todo
decreases-loop-todo l = size 32 l.todo + (32 - size 32 l.seen)
