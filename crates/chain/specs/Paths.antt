-- Paths from job to job along conflicts, and the best of them (document 01, "The walk and the chain shown").
-- `clash` has for each job the set of jobs that it conflicts with; `shut` is the set of jobs that no path goes through. Jobs count from 0.
use Rattle.std.specs.Prelude.{◌≡◌, ◌⊎◌, List, [], ◌∷◌, ◌++◌, map, ℕ, zero, suc, ◌<◌, length, get_or, drop, Option, None, Some}
use Rattle.jobset.specs.Jobset.{bit}
use Rattle.theory.specs.Shown.{Sooner}

abbrev pub Edge : List ℕ → ℕ → ℕ → Type 0
Edge clash i j = bit (get_or clash i 0) j ≡ 1

abbrev pub Open : ℕ → ℕ → Type 0
Open shut j = bit shut j ≡ 0

-- the jobs after i, up to the goal; those between the ends are open
abbrev pub Path : List ℕ → ℕ → ℕ → ℕ → List ℕ → Type 0
Path clash shut i goal [] = i ≡ goal
Path clash shut i goal (j ∷ []) = Edge clash i j × (j ≡ goal)
Path clash shut i goal (j ∷ k ∷ c) = Edge clash i j × Open shut j × Path clash shut j goal (k ∷ c)

-- the jobs of r are those that a path leads to from some job of `from`
pub record Joined (clash : List ℕ) (shut from r : ℕ) : Type 0 where
  pub sound : (k : ℕ) → bit r k ≡ 1 → (j : ℕ) × (c : List ℕ) × (bit from j ≡ 1) × Path clash shut j k c
  pub whole : (j k : ℕ) (c : List ℕ) → bit from j ≡ 1 → Path clash shut j k c → bit r k ≡ 1

-- the shortest path; of several, the lowest at the first place where they differ
pub record Best (clash : List ℕ) (shut first last : ℕ) (c : List ℕ) : Type 0 where
  pub path : Path clash shut first last c
  pub least : (d : List ℕ) → Path clash shut first last d → (c ≡ d) ⊎ Sooner c d

-- conflicts go both ways
abbrev pub Both : List ℕ → Type 0
Both clash = (i j : ℕ) → i < 32 → j < 32 → Edge clash i j → Edge clash j i

-- the best path and its first job stand at the front, as job numbers from 1; what lies beyond keeps its value
pub record Written (clash : List ℕ) (shut first last : ℕ) (before after : List ℕ) (links : ℕ) : Type 0 where
  pub chain : List ℕ
  pub long : length chain ≡ links
  pub best : Best clash shut first last chain
  pub jobs : after ≡ map suc (first ∷ chain) ++ drop (suc links) before

-- some n jobs of the chain are shown; none where no path leads there, and then nothing is written
abbrev pub Shows : (clash : List ℕ) (shut first last : ℕ) (before after : List ℕ) → Option ℕ → Type 0
Shows clash shut first last before after None = ((c : List ℕ) → ¬ Path clash shut first last c) × (after ≡ before)
Shows clash shut first last before after (Some zero) = ⊥
Shows clash shut first last before after (Some (suc links)) = Written clash shut first last before after links
