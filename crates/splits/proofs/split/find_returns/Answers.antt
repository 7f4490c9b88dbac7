use native.Mathlib.Omega.{arith}
use mathlib.Core.Path.{refl}
use Rattle.splits.proofs.ReturnSteps.{going_starts, going_low, going_high, going_ends}
use Rattle.splits.proofs.split.find_returns.Goals as goal

pub loop-b-init : goal.loop-b-init
loop-b-init c = going_starts _ _ _ _ _ _ refl

pub loop-b-preserved-then-level-lt1 : goal.loop-b-preserved-then-level-lt1
loop-b-preserved-then-level-lt1 c =
    going_low
    _ _ _ _ _ _ _ _ _
    (omega arith)
    c.loop-b.invariant
    c.requires
    c.if-level-lt1.true
    _ _ _ _
    c.over.ensures
    c.over-then-level-lt1.ensures
    c.union.ensures
    c.union-all.ensures

pub loop-b-preserved : goal.loop-b-preserved
loop-b-preserved c = going_high _ _ _ _ _ _ _ _ _ (omega arith) c.loop-b.invariant c.if-level-lt1.false

pub returns : goal.returns
returns c = going_ends _ _ _ _ _ _ _ _ (omega arith) c.loop-b.invariant
