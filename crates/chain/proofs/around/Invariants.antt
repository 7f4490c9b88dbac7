use Prim.Native.Nat.{◌^◌, ◌<◌}
use Rattle.jobset.specs.Jobset.{size}
use Rattle.chain.proofs.Arounds.{Gathering}
use Rattle.chain.proofs.around.Given as goal

abbrev pub invariant-loop-left : goal.invariant-loop-left
invariant-loop-left l = (l.near < 2 ^ 32) × (l.left < 2 ^ 32) × Gathering l.clash l.jobs l.near l.left

abbrev pub decreases-loop-left : goal.decreases-loop-left
decreases-loop-left l = size 32 l.left
