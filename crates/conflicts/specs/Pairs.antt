-- The pairs of operations that the chain shown asks for (document 01, "The walk and the chain shown"), over any conflict rule.
use Rattle.std.specs.Prelude.{◌⊎◌, Bool, ◌&&◌, ◌||◌, ℕ, Option, Some, None, ◌≤◌, ◌<◌}
use Rattle.theory.specs.Danger.{Rule, Jobs, clash}
use Rattle.theory.specs.Shown.{LowestPair, PairAt}
use Rattle.conflicts.specs.declared.pairs.Pair.{Pair}

-- the first operation is rw with the second or, where any conflict will do, in some conflict with it
unfoldable pub fits? : (r : Rule) → Bool → r.Op → r.Op → Bool
fits? r any x y = r.rw x y || any && clash r x y

-- operation b of job i and operation a of job j do: any conflict from operation `any` of job j on, rw before it
abbrev pub Fits : (r : Rule) → Jobs r → ℕ → ℕ → ℕ → ℕ → ℕ → Type 0
Fits r js any i j b a = PairAt r js r.rw i j b a ⊎ ((any ≤ a) × PairAt r js (clash r) i j b a)

-- the lowest number that will do, or none where none does
abbrev pub Partner : (ℕ → Type 0) → Option ℕ → Type 0
Partner P (Some a) = (a < 16) × P a × ((k : ℕ) → P k → a ≤ k)
Partner P None = (k : ℕ) → ¬ P k

-- the lowest pair that will do, or none where none does
abbrev pub Paired : (ℕ → ℕ → Type 0) → Option Pair → Type 0
Paired P (Some p) = (p.earlier < 16) × (p.later < 16) × LowestPair P (p.earlier, p.later)
Paired P None = (i j : ℕ) → ¬ P i j
