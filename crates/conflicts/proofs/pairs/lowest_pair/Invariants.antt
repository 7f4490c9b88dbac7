use Prim.Native.Nat.{ℕ, ◌<◌}
use Rattle.theory.specs.Danger.{Jobs}
use Rattle.theory.specs.Form1.{form1}
use Rattle.conflicts.specs.Laid.{Laid}
use Rattle.conflicts.specs.Pairs.{Fits}
use Rattle.conflicts.proofs.pairs.lowest_pair.Given as goal

abbrev pub invariant-loop-earlier : goal.invariant-loop-earlier
invariant-loop-earlier l = (js : Jobs form1) → Laid l.table.kind l.table.object js → (k : ℕ) → k < l.earlier → (a : ℕ) → ¬ Fits form1 js l.any l.i l.j k a
