-- What the code finds on its way to the sets, entry by entry of the arrays.
use Rattle.std.specs.Prelude.{◌≡◌, Bool, false, not, ◌&&◌, ◌||◌, List, ℕ, zero, suc, ◌+◌, ◌*◌, ◌/◌, ◌≤◌, ◌<◌, max, eqb, ltb, length, get_or}
use Rattle.jobset.specs.Jobset.{bit}
use Rattle.conflicts.specs.Sets.{Has, over}

-- some number below n passes
unfoldable pub among : ℕ → (ℕ → Bool) → Bool
among zero p = false
among (suc n) p = among n p || p n

-- job k is in m
abbrev pub in? : ℕ → ℕ → Bool
in? m k = eqb (bit m k) 1

-- the entry at i is a write of object x by job k
unfoldable pub write? : List ℕ → List ℕ → ℕ → ℕ → ℕ → Bool
write? kind object x k i = eqb (i / 16) k && (eqb (get_or kind i 0) 2 && eqb x (get_or object i 0))

-- one of the first n entries is
abbrev pub writes? : List ℕ → List ℕ → ℕ → ℕ → ℕ → Bool
writes? kind object n x k = among n (write? kind object x k)

-- entry s of `seen` has the jobs that write object from + s
pub record Gathered (kind object : List ℕ) (n from : ℕ) (seen : List ℕ) : Type 0 where
  pub as_long : length seen ≡ 512
  pub jobs : (s : ℕ) → s < 512 → Has (get_or seen s 0) (writes? kind object n (from + s))

-- the first n entries on an object from `from` to `from` + 511 have what `seen` has for it, all others are as before
pub record Handed (object seen : List ℕ) (n from : ℕ) (before after : List ℕ) : Type 0 where
  pub as_long : length after ≡ length before
  pub inside : (i s : ℕ) → i < n → s < 512 → get_or object i 0 ≡ from + s → get_or after i 0 ≡ get_or seen s 0
  pub outside : (i : ℕ) → ((s : ℕ) → i < n → s < 512 → get_or object i 0 ≡ from + s → ⊥) → get_or after i 0 ≡ get_or before i 0

-- a write among the first n entries is of an object below the declared number
abbrev pub WritesBelow : ℕ → List ℕ → List ℕ → ℕ → Type 0
WritesBelow objects kind object n = (i : ℕ) → i < n → get_or kind i 0 ≡ 2 → get_or object i 0 < objects

-- each of the first n entries has the jobs that write its object, all others have none
pub record Written (kind object : List ℕ) (n : ℕ) (writers : List ℕ) : Type 0 where
  pub as_long : length writers ≡ 512
  pub done : (i : ℕ) → i < n → Has (get_or writers i 0) (writes? kind object n (get_or object i 0))
  pub rest : (i : ℕ) → n ≤ i → get_or writers i 0 ≡ 0

-- entry j of the sets is as it should be for the first n jobs, and no job for the others
pub record Filled (n : ℕ) (P : ℕ → ℕ → Type 0) (sets : List ℕ) : Type 0 where
  pub as_long : length sets ≡ 32
  pub done : (j : ℕ) → j < n → P j (get_or sets j 0)
  pub rest : (j : ℕ) → n ≤ j → get_or sets j 0 ≡ 0

-- m has the jobs other than j that write over one of job j's operations of kind k
unfoldable pub Over : List ℕ → List ℕ → ℕ → ℕ → ℕ → Type 0
Over kind writers k j m = Has m (λ x. not (eqb j x) && among 16 (λ o. in? (over kind writers (16 * j + o) k) x))

-- m has those of the first n jobs whose set has job j
unfoldable pub Turned : ℕ → List ℕ → ℕ → ℕ → Type 0
Turned n sets j m = Has m (λ x. ltb x n && in? (get_or sets x 0) j)

-- m has the jobs of any of job j's three sets
unfoldable pub Any : List ℕ → List ℕ → List ℕ → ℕ → ℕ → Type 0
Any ww wr rw j m = (k : ℕ) → bit m k ≡ max (max (bit (get_or ww j 0) k) (bit (get_or wr j 0) k)) (bit (get_or rw j 0) k)
