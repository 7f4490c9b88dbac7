-- What the sets of the sheet's jobs are, over any conflict rule: a job that the sheet does not have conflicts with none, wr is rw turned
-- round, a conflict is any of the three.
-- Assumes nothing.
use Prim.Native.Nat.{ℕ, ◌≤◌, ◌<◌, max}
use mathlib.Core.Path.{◌≡◌, sym, ap, ap₂, ◌∙◌}
use mathlib.Core.Bool.{Bool, false, not, ◌&&◌, ◌||◌}
use mathlib.Core.List.{List, []}
use native.Mathlib.Decide.{dec_lt}
use native.Mathlib.Omega.{arith}
use lib.Dec.{eqb, ltb}
use lib.ListN.{length, get_or, get_or-eq_default}
use borrow.Author.Tests.{lt-ltb}
use Rattle.jobset.specs.Jobset.{bit, one}
use Rattle.jobset.specs.JobsetLaws.{one_or, bit_none}
use Rattle.theory.specs.Find.{meet?}
use Rattle.theory.proofs.FindLaws.{meet_swap}
use Rattle.theory.specs.Danger.{Rule, Jobs, wr, clash, job}
use Rattle.conflicts.specs.Sets.{Has, job_with}
use Rattle.conflicts.specs.Found.{Filled, Turned, Any}
use Rattle.conflicts.proofs.Among.{same_test, in_one}
use Rattle.conflicts.proofs.RelationLaws.{eqb_turn, and_none, and_or, meet_or}

module _ (r : Rule) (js : Jobs r) where
  -- the sets of a relation, one for each job
  abbrev pub HasAll : (r.Op → r.Op → Bool) → List ℕ → Type 0
  HasAll p sets = (j : ℕ) → Has (get_or sets j 0) (job_with r js p j)

  no_job : (p : r.Op → r.Op → Bool) (j k : ℕ) → length js ≤ j → job_with r js p j k ≡ false
  no_job p j k h = rw (get_or-eq_default js [] {n = j} h) (and_none (not (eqb j k)))

  pub filled_all : (p : r.Op → r.Op → Bool) (P : ℕ → ℕ → Type 0) (sets : List ℕ) → Filled (length js) P sets
      → ((j m : ℕ) → P j m → Has m (job_with r js p j)) → HasAll p sets
  unfolding one
  filled_all p P sets f g j = cases (dec_lt j (length js))
    where
      cases : Dec (j < length js) → Has (get_or sets j 0) (job_with r js p j)
      cases (yes h) = g j (get_or sets j 0) (f.done j h)
      cases (no h) = λ k. ap (λ (m : ℕ). bit m k) (f.rest j (omega arith)) ∙ bit_none k ∙ ap one (sym (no_job p j k (omega arith)))

  jobs_turned : (j k : ℕ) → job_with r js r.rw k j ≡ job_with r js (wr r) j k
  jobs_turned j k =
      ap₂ (λ (a b : Bool). not a && b) (eqb_turn k j)
      (same_test _ _ (meet_swap r.rw (wr r) (λ x y t. t) (job r js k) (job r js j)) (meet_swap (wr r) r.rw (λ x y t. t) (job r js j) (job r js k)))

  pub turned_jobs : (rw_of : List ℕ) → HasAll r.rw rw_of → (j m : ℕ) → Turned (length js) rw_of j m → Has m (job_with r js (wr r) j)
  unfolding Turned
  turned_jobs rw_of f j m t k = t k ∙ ap one (ap (λ (b : Bool). ltb k (length js) && b) (in_one _ j _ (f k j)) ∙ within (dec_lt k (length js)) ∙ jobs_turned j k)
    where
      within : Dec (k < length js) → ltb k (length js) && job_with r js r.rw k j ≡ job_with r js r.rw k j
      within (yes h) = rw (lt-ltb k (length js) h)
      within (no h) = rw (no_job r.rw k j (omega arith)) (and_none (ltb k (length js)))

  pub any_jobs : (ww_of wr_of rw_of : List ℕ) → HasAll r.ww ww_of → HasAll (wr r) wr_of → HasAll r.rw rw_of
      → (j m : ℕ) → Any ww_of wr_of rw_of j m → Has m (job_with r js (clash r) j)
  unfolding Any
  any_jobs ww_of wr_of rw_of f g h j m a k =
      a k
      ∙ ap₂ (λ (x y : ℕ). max x y) (ap₂ (λ (x y : ℕ). max x y) (f j k) (g j k) ∙ both r.ww (wr r)) (h j k)
      ∙ both (λ x y. r.ww x y || wr r x y) r.rw
    where
      both : (p q : r.Op → r.Op → Bool) → max (one (job_with r js p j k)) (one (job_with r js q j k)) ≡ one (job_with r js (λ x y. p x y || q x y) j k)
      both p q =
          sym (one_or (job_with r js p j k) (job_with r js q j k))
          ∙ ap one
          (and_or (not (eqb j k)) (meet? p (job r js j) (job r js k)) (meet? q (job r js j) (job r js k))
          ∙ ap (λ (b : Bool). not (eqb j k) && b) (meet_or p q (job r js j) (job r js k)))
