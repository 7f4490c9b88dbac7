use Prim.Native.Nat.{ℕ, ◌<◌}
use Rattle.theory.specs.Danger.{Jobs}
use Rattle.theory.specs.Form1.{form1}
use Rattle.conflicts.specs.SetsOf.{SetsOf}
use Rattle.verdict.specs.Verdict.{IsSplit}
use Rattle.verdict.proofs.RobustLaws.{within}
use Rattle.verdict.proofs.judge.is_robust.Given as goal

abbrev pub invariant-loop-t1 : goal.invariant-loop-t1
invariant-loop-t1 l =
    (k : ℕ) → k < l.t1 → (js : Jobs form1) → SetsOf js l.sets → ¬ IsSplit form1 js (within l.jobs l.levels) k
