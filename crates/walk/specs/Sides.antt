-- The first and the last jobs between which a path leads, as sets.
use Rattle.std.specs.Prelude.{◌≡◌, List, ℕ}
use Rattle.jobset.specs.Jobset.{bit}
use Rattle.chain.specs.Paths.{Path}

-- the jobs of `first` that a path leads to from some job of `last`
pub record Firsts (clash : List ℕ) (shut first last r : ℕ) : Type 0 where
  pub sound : (k : ℕ) → bit r k ≡ 1 → (bit first k ≡ 1) × ((j : ℕ) × (c : List ℕ) × (bit last j ≡ 1) × Path clash shut j k c)
  pub whole : (j k : ℕ) (c : List ℕ) → bit first k ≡ 1 → bit last j ≡ 1 → Path clash shut j k c → bit r k ≡ 1

-- job k goes with first job f: f and k are not both watched, and a path leads from f to k
pub record Goes (clash : List ℕ) (shut watch firsts lasts f k : ℕ) : Type 0 where
  pub first : bit firsts f ≡ 1
  pub last : bit lasts k ≡ 1
  pub six : ¬ ((bit watch f ≡ 1) × (bit watch k ≡ 1))
  pub between : List ℕ
  pub path : Path clash shut f k between

-- the last jobs that go with first job f
pub record Lasts (clash : List ℕ) (shut watch firsts last f r : ℕ) : Type 0 where
  pub sound : (k : ℕ) → bit r k ≡ 1 → Goes clash shut watch firsts last f k
  pub whole : (k : ℕ) → Goes clash shut watch firsts last f k → bit r k ≡ 1
