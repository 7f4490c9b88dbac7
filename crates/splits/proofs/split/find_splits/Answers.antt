use mathlib.Core.Path.{refl}
use native.Mathlib.Omega.{arith}
use native.Mathlib.Numerals.{add-one}
use Rattle.splits.proofs.SplitSteps.{going_starts, going_next, going_ends}
use Rattle.splits.proofs.split.find_splits.Goals as goal

pub loop-b-init : goal.loop-b-init
loop-b-init c = going_starts _ _ _ _ _ _ _ _ c.requires _ _ _ refl c.find_returns-last.ensures c.closed_from_start-closed.ensures

pub loop-b-preserved : goal.loop-b-preserved
loop-b-preserved c =
    going_next
    _ _ _ _ _ _ _ _
    c.requires
    _ _ _ _ _ _ _ _
    (add-one c.loop-b.b)
    (omega arith)
    c.loop-b.invariant
    (record {
      rw_at = c.over-in-loop-b.result;
      ww_at = c.over.result;
      free = c.without-free.result;
      rest = c.without.result;
      rw_is = c.over-in-loop-b.ensures;
      ww_is = c.over.ensures;
      more_is = c.union-closed.ensures;
      free_is = c.without-free.ensures;
      first_is = c.unnoticed.ensures;
      rest_is = c.without.ensures;
      left_is = c.unnoticed-in-loop-b.ensures;
    })

pub returns : goal.returns
returns c = going_ends _ _ _ _ _ _ _ _ _ _ _ _ (omega arith) c.loop-b.invariant
