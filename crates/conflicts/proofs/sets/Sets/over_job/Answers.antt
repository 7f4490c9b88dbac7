-- `over_job` meets its contract: before each turn the union is over the operations passed.
-- Assumes nothing.
use mathlib.Core.Path.{◌≡◌, refl}
use native.Mathlib.Omega.{arith}
use Rattle.conflicts.proofs.SetsLaws.{over_none, over_more, over_others}
use Rattle.conflicts.proofs.sets.Sets.over_job.Goals as goal

pub loop-o-init : goal.loop-o-init
loop-o-init c = over_none _ _ _ _ _ refl

pub loop-o-preserved : goal.loop-o-preserved
loop-o-preserved c = over_more _ _ _ _ _ _ _ _ c.loop-o.invariant c.over.ensures c.union-all.ensures

pub returns : goal.returns
returns c =
    let at = c.loop-o in
    let end : at.o ≡ 16 = omega arith in
    over_others _ _ _ _ _ _ _ (rw end at at.invariant) c.single.ensures c.without.ensures
