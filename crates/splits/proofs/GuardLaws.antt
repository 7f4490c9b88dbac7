-- The sets of jobs that SSI watches.
use mathlib.Core.Path.{◌≡◌, refl, sym, ap, ◌∙◌}
use mathlib.Core.Logic.{inl, inr}
use mathlib.Core.Bool.{Bool, true, false, ◌&&◌, and-true, and-false}
use mathlib.Core.List.{List}
use Prim.Native.Nat.{ℕ, ◌+◌, ◌-◌, ◌≤◌, ◌<◌, min, max}
use native.Mathlib.Omega.{arith}
use lib.Dec.{leb, eqb, le→leb}
use lib.ListN.{get_or}
use borrow.Author.Tests.{le-leb, lt-leb, eqb-true, eqb-false}
use Rattle.jobset.specs.Jobset.{bit, one}
use Rattle.jobset.specs.JobsetLaws.{bit_lt, bit_none, digit, one_holds}
use Rattle.conflicts.specs.Sets.{Has}
use Rattle.conflicts.specs.Found.{among}
use Rattle.conflicts.proofs.Among.{among_at, has_none, has_more, has_skip}
use Rattle.splits.specs.Splits.{ssi?}

module _ (levels : List ℕ) where
  ssi_job? : ℕ → ℕ → Bool
  ssi_job? k i = eqb i k && leb 2 (get_or levels i 0)

  ssi_among : (n k : ℕ) → among n (ssi_job? k) ≡ ssi? n levels k
  unfolding ssi_job?
  ssi_among n k = among_at n k (λ i. leb 2 (get_or levels i 0))

  pub ssi_none : Has 0 (ssi? 0 levels)
  ssi_none k = has_none ssi_job? 0 refl k ∙ ap one (ssi_among 0 k)

  -- one job more: it is at SSI and comes in, or it isn't
  module _ (j all : ℕ) (h : Has all (ssi? j levels)) where
    so_far : Has all (λ k. among j (ssi_job? k))
    so_far k = h k ∙ ap one (sym (ssi_among j k))

    pub ssi_with : (more : ℕ) → 2 ≤ get_or levels j 0 → ((k : ℕ) → bit more k ≡ max (bit all k) (one (eqb j k))) → Has more (ssi? (j + 1) levels)
    unfolding ssi_job?
    ssi_with more l e k =
        has_more ssi_job? j all more so_far (λ k. e k ∙ ap (λ (b : Bool). max (bit all k) (one b)) (sym (ap (eqb j k &&◌) (le-leb 2 (get_or levels j 0) l) ∙ and-true (eqb j k)))) k
        ∙ ap one (ssi_among (j + 1) k)

    pub ssi_less : get_or levels j 0 < 2 → Has all (ssi? (j + 1) levels)
    unfolding ssi_job?
    ssi_less l k = has_skip ssi_job? j all so_far (λ k. ap (eqb j k &&◌) (lt-leb 2 (get_or levels j 0) l) ∙ and-false (eqb j k)) k ∙ ap one (ssi_among (j + 1) k)

pub watched_all : (level ssi : ℕ) → 2 ≤ level → (k : ℕ) → bit ssi k ≡ min (one (leb 2 level)) (bit ssi k)
watched_all level ssi h k = omega (arith, bit_lt ssi k, one_holds (leb 2 level) (le→leb 2 level h))

pub watched_none : (level ssi : ℕ) → level < 2 → (k : ℕ) → bit 0 k ≡ min (one (leb 2 level)) (bit ssi k)
unfolding one
watched_none level ssi h k = omega (arith, bit_none k, ap one (lt-leb 2 level h))

-- a first job that is watched leaves the last jobs that are not; one that isn't leaves them all
module _ (last watch first : ℕ) where
  pub beside_watched : eqb (bit watch first) 1 ≡ true → (k : ℕ) → bit last k - bit watch k ≡ bit last k - min (bit watch first) (bit watch k)
  beside_watched e k = omega (arith, eqb-true (bit watch first) 1 e, bit_lt watch k)

  pub beside_free : eqb (bit watch first) 1 ≡ false → (k : ℕ) → bit last k ≡ bit last k - min (bit watch first) (bit watch k)
  beside_free e k = elim (digit (bit watch first) (bit_lt watch first)) [ inl z ↦ omega arith | inr o ↦ absurd (eqb-false (bit watch first) 1 e o) ]
