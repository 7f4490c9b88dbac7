-- One entry of a list is set anew.
use mathlib.Core.Path.{◌≡◌}
use Prim.Native.Nat.{ℕ, ◌<◌}
use mathlib.Core.List.{List}
use native.Mathlib.Decide.{ℕ_discrete}
use lib.ListN.{length, get_or, set}
use lib.Seq.{get_or-set_same, get_or-set_other}

pub set_each : (P : ℕ → ℕ → Type 0) (xs : List ℕ) (n v : ℕ) → n < length xs → P n v → (b : ℕ) → (¬ (b ≡ n) → P b (get_or xs b 0)) → P b (get_or (set xs n v) b 0)
set_each P xs n v h p b q = elim (ℕ_discrete b n) [
  | yes e ↦ rw e (rw (get_or-set_same xs n v 0 h) p)
  | no ne ↦ rw (get_or-set_other xs n b v 0 ne) (q ne)
]
