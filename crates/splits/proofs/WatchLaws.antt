-- The sets of what SSI notices mean what conditions 6 to 8 say, under the levels of all jobs.
use Rattle.std.specs.Prelude.{◌≡◌, ◌↔◌, Bool, ◌&&◌, not, List, ℕ, ◌-◌, ◌≤◌, ◌<◌, min, T, get_or}
use Rattle.std.proofs.Common.{sym, ap₂, ◌∙◌, inl, inr, arith, lt-ltb, le-ltb}
use Rattle.std.proofs.Math.Path.{ap}
use Rattle.std.proofs.Math.Decide.{dec_lt}
use Rattle.std.proofs.Math.Dec.{leb}
use Rattle.std.proofs.lemmas.Bool.{lt-leb}
use Rattle.theory.proofs.FindLaws.{passes}
use Rattle.jobset.specs.Jobset.{bit, one}
use Rattle.jobset.specs.JobsetLaws.{bit_none, bit_lt, one_and}
use Rattle.conflicts.specs.Sets.{Has}
use Rattle.splits.specs.Splits.{ssi?, watch?}
use Rattle.splits.proofs.HasLaws.{has_in, has_out}

module _ (lv : ℕ → ℕ) (t1 : ℕ) where
  -- nothing is watched together with a job below SSI
  pub watch_none : lv t1 < 2 → Has 0 (watch? lv t1)
  unfolding one
  watch_none low k = bit_none k ∙ ap one (ap (◌&& leb 2 (lv k)) (sym (lt-leb 2 (lv t1) low)))

  -- the sets of `at_ssi` and `watched`, where the levels of a list are those of the jobs and no other job is at SSI
  pub watch_has : (jobs : ℕ) (levels : List ℕ) (ssi watch : ℕ) → ((k : ℕ) → k < jobs → lv k ≡ get_or levels k 0) → ((k : ℕ) → jobs ≤ k → lv k < 2)
      → Has ssi (ssi? jobs levels) → ((k : ℕ) → bit watch k ≡ min (one (leb 2 (lv t1))) (bit ssi k)) → Has watch (watch? lv t1)
  watch_has jobs levels ssi watch within beyond h e k =
      e k ∙ ap (min (one (leb 2 (lv t1)))) (h k) ∙ sym (one_and (leb 2 (lv t1)) (ssi? jobs levels k)) ∙ ap (λ (b : Bool). one (leb 2 (lv t1) && b)) (same (dec_lt k jobs))
    where
      same : Dec (k < jobs) → ssi? jobs levels k ≡ leb 2 (lv k)
      same (yes q) = ap₂ ◌&&◌ (lt-ltb k jobs q) (ap (leb 2) (sym (within k q)))
      same (no q) = ap (◌&& leb 2 (get_or levels k 0)) (le-ltb k jobs (omega arith)) ∙ sym (lt-leb 2 (lv k) (beyond k (omega arith)))

  -- condition 6: the last jobs that `beside` leaves a first job
  pub beside_means : (last watch first left : ℕ) → Has watch (watch? lv t1) → ((k : ℕ) → bit left k ≡ bit last k - min (bit watch first) (bit watch k))
      → (k : ℕ) → (bit left k ≡ 1) ↔ (bit last k ≡ 1) × (¬ (T (watch? lv t1 first) × T (watch? lv t1 k)))
  beside_means last watch first left h e k = (
    λ q. (omega (arith, e k, bit_lt last k), λ w. omega (arith, e k, bit_lt last k, (watched first).1 w.0, (watched k).1 w.1)),
    λ q. elim (passes (watch? lv t1 first)) [
      | inl a ↦ elim (passes (watch? lv t1 k)) [ inl b ↦ absurd (q.1 (a, b)) | inr b ↦ omega (arith, e k, q.0, (free k).1 b) ]
      | inr a ↦ omega (arith, e k, q.0, (free first).1 a)
    ],
  )
    where
      watched : (j : ℕ) → (bit watch j ≡ 1) ↔ T (watch? lv t1 j)
      watched = has_in watch (watch? lv t1) h

      free : (j : ℕ) → (bit watch j ≡ 0) ↔ T (not (watch? lv t1 j))
      free = has_out watch (watch? lv t1) h
