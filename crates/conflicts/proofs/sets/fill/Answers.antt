-- `fill` meets its contract: before each turn the entries passed are as they should be.
-- Assumes nothing.
use native.Mathlib.Omega.{arith}
use Rattle.conflicts.proofs.SetsLaws.{filled_front}
use Rattle.conflicts.proofs.sets.fill.Goals as goal

pub returns : goal.returns
returns g c =
    let at = c.loop-j in
    filled_front _ _ _ _ at.auto.place-items c.requires.jobs_bound (omega (arith, c.loop-j-test.false)) at.invariant
