use mathlib.Core.Path.{◌≡◌}
use Prim.Native.Nat.{ℕ, ◌<◌}
use lib.ListN.{length, get_or}
use Rattle.theory.specs.Danger.{Jobs}
use Rattle.theory.specs.Form1.{form1}
use Rattle.conflicts.specs.SetsOf.{SetsOf}
use Rattle.verdict.specs.Needed.{LowestOf}
use Rattle.verdict.proofs.LowersLaws.{Lowering}
use Rattle.verdict.proofs.lowest.find_lowest.Given as goal

abbrev pub invariant-loop-j : goal.invariant-loop-j
invariant-loop-j l =
    Lowering l.jobs l.place-items l.asked l.j × ((js : Jobs form1) → SetsOf js l.sets → length js ≡ l.jobs → (k : ℕ) → k < l.j → LowestOf form1 js k (get_or l.place-items k 0))
