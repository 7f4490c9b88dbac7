-- Conditions 2 and 3, from the first operation of t1 on, and what is left of a set by them and by what SSI notices.
use mathlib.Core.Path.{◌≡◌, refl, sym, ap, ap₂, ◌∙◌}
use mathlib.Core.Logic.{inl, inr}
use mathlib.Core.Bool.{Bool, true, false, ◌&&◌, ◌||◌, not, or_comm}
use mathlib.Core.List.{List}
use Prim.Native.Nat.{ℕ, suc, ◌+◌, ◌*◌, ◌-◌, ◌≤◌, ◌<◌, min, max}
use native.Mathlib.Omega.{arith}
use native.Mathlib.Decide.{ℕ_discrete}
use lib.Dec.{T, leb, eqb, le→leb, eqb_refl}
use lib.ListN.{take, drop}
use borrow.Author.Tests.{lt-leb}
use Rattle.theory.specs.Find.{some?, meet?}
use Rattle.theory.proofs.FindLaws.{passes, and_left, and_right, and_both, or_left, or_right, or_cases, differ}
use Rattle.theory.specs.Danger.{Rule, Jobs, clash, job, prefix, postfix}
use Rattle.jobset.specs.Jobset.{bit, one}
use Rattle.jobset.specs.JobsetLaws.{bit_lt, one_lt, one_and, one_or, one_holds}
use Rattle.conflicts.specs.Sets.{Has, Sets, over, op_with, job_with}
use Rattle.conflicts.proofs.Among.{same_test}
use Rattle.splits.specs.Splits.{watch?, shut?, closed?}
use Rattle.splits.specs.Steps.{Besides, closing?}
use Rattle.splits.proofs.SplitsLaws.{with_means}
use Rattle.splits.proofs.HasLaws.{left_over, has_also, has_or}
use Rattle.splits.proofs.PartLaws.{some_upto_next, some_from_lem}

-- the next operation goes over from the later ones to the prefix
passed_on : (self early here above late : Bool) → (self || (early || (above && (here || late)))) || here ≡ self || ((early || here) || (above && late))
passed_on true early here above late = refl
passed_on false true here above late = refl
passed_on false false true true late = refl
passed_on false false true false late = refl
passed_on false false false true true = refl
passed_on false false false true false = refl
passed_on false false false false late = refl

-- t1 alone, or with the jobs of a set, by its level
module _ (ww level all t1 k : ℕ) where
  pub closed_low : level < 1 → bit all k ≡ one (eqb t1 k) → bit all k ≡ max (one (eqb t1 k)) (min (one (leb 1 level)) (bit ww k))
  unfolding one
  closed_low h e = omega (arith, ap one (lt-leb 1 level h))

  pub closed_high : 1 ≤ level → bit all k ≡ max (bit ww k) (one (eqb t1 k)) → bit all k ≡ max (one (eqb t1 k)) (min (one (leb 1 level)) (bit ww k))
  closed_high h e = omega (arith, bit_lt ww k, one_holds (leb 1 level) (le→leb 1 level h))

-- the jobs that condition 1 forbids
pub shut_has : (r : Rule) (js : Jobs r) (t1 joins shut : ℕ) → Has joins (job_with r js (clash r) t1) → ((k : ℕ) → bit shut k ≡ max (bit joins k) (one (eqb t1 k))) → Has shut (shut? r js t1)
shut_has r js t1 joins shut h e k = has_also joins shut (job_with r js (clash r) t1) (eqb t1) h e k ∙ ap one (or_comm (job_with r js (clash r) t1 k) (eqb t1 k))

module _ (r : Rule) (js : Jobs r) (lv : ℕ → ℕ) (t1 : ℕ) where
  -- before the first operation
  pub close_start : (ww all : ℕ) → Has ww (job_with r js r.ww t1) → ((k : ℕ) → bit all k ≡ max (one (eqb t1 k)) (min (one (leb 1 (lv t1))) (bit ww k))) → Has all (closing? r js lv t1 0)
  close_start ww all h e k =
      e k
      ∙ ap (λ (x : ℕ). max (one (eqb t1 k)) x) (ap (min (one (leb 1 (lv t1)))) (h k) ∙ sym (one_and (leb 1 (lv t1)) joins))
      ∙ sym (one_or (eqb t1 k) (leb 1 (lv t1) && joins))
      ∙ ap one (same_test (eqb t1 k || (leb 1 (lv t1) && joins)) (eqb t1 k || (leb 1 (lv t1) && meets)) up down)
    where
      joins : Bool
      joins = job_with r js r.ww t1 k

      meets : Bool
      meets = meet? r.ww (job r js t1) (job r js k)

      up : T (eqb t1 k || (leb 1 (lv t1) && joins)) → T (eqb t1 k || (leb 1 (lv t1) && meets))
      up t = elim (or_cases (eqb t1 k) (leb 1 (lv t1) && joins) t) [
        | inl q ↦ or_left (eqb t1 k) (leb 1 (lv t1) && meets) q
        | inr q ↦ or_right (eqb t1 k) (leb 1 (lv t1) && meets) (and_both (leb 1 (lv t1)) meets (and_left (leb 1 (lv t1)) joins q) ((with_means r js t1 r.ww k).0 (and_right (leb 1 (lv t1)) joins q)).1)
      ]

      down : T (eqb t1 k || (leb 1 (lv t1) && meets)) → T (eqb t1 k || (leb 1 (lv t1) && joins))
      down t = elim (passes (eqb t1 k)) [
        | inl q ↦ or_left (eqb t1 k) (leb 1 (lv t1) && joins) q
        | inr n ↦ elim (or_cases (eqb t1 k) (leb 1 (lv t1) && meets) t) [
          | inl q ↦ or_left (eqb t1 k) (leb 1 (lv t1) && joins) q
          | inr q ↦ or_right (eqb t1 k) (leb 1 (lv t1) && joins) (and_both (leb 1 (lv t1)) joins (and_left (leb 1 (lv t1)) meets q) ((with_means r js t1 r.ww k).1 (differ t1 k n, and_right (leb 1 (lv t1)) meets q)))
        ]
      ]

  pub close_next : {kind writers ww_of rw_of wr_of clash_of : List ℕ} → Sets r js kind writers ww_of rw_of wr_of clash_of → (n closed more : ℕ) → t1 < 32 → n < 16
      → Has closed (closing? r js lv t1 n) → ((k : ℕ) → bit more k ≡ max (bit closed k) (bit (over kind writers (16 * t1 + n) 2) k)) → Has more (closing? r js lv t1 (suc n))
  close_next {kind} {writers} s n closed more small at h e k =
      has_or closed (over kind writers (16 * t1 + n) 2) more (closing? r js lv t1 n) (op_with r js r.ww t1 n) h (s.op_ww t1 n small at) e k ∙ ap one same
    where
      with? : r.Op → Bool
      with? x = some? (r.ww x) (job r js k)

      same : closing? r js lv t1 n k || op_with r js r.ww t1 n k ≡ closing? r js lv t1 (suc n) k
      same =
          ap (λ (late : Bool). (eqb t1 k || (some? with? (take n (job r js t1)) || (leb 1 (lv t1) && late))) || op_with r js r.ww t1 n k) (some_from_lem with? n (job r js t1))
          ∙ passed_on (eqb t1 k) (some? with? (take n (job r js t1))) (op_with r js r.ww t1 n k) (leb 1 (lv t1)) (some? with? (drop (suc n) (job r js t1)))
          ∙ ap (λ (early : Bool). eqb t1 k || (early || (leb 1 (lv t1) && some? with? (drop (suc n) (job r js t1))))) (sym (some_upto_next with? n (job r js t1)))

  -- what is left of a set by the closed jobs and by what SSI notices
  pub sift : (p : ℕ → Bool) (q : r.Op → r.Op → Bool) (b set closed watch noticed rest left : ℕ)
      → Besides t1 set p → Has closed (closed? r js lv t1 b) → Has watch (watch? lv t1) → Has noticed (job_with r js q t1)
      → ((k : ℕ) → bit rest k ≡ bit set k - bit closed k) → ((k : ℕ) → bit left k ≡ bit rest k - min (bit watch k) (bit noticed k))
      → Has left (λ k. (p k && not (closed? r js lv t1 b k)) && not (watch? lv t1 k && meet? q (job r js t1) (job r js k)))
  sift p q b set closed watch noticed rest left h c w n rest_is left_is k = elim (ℕ_discrete t1 k) [
    | yes e ↦ omega (arith, left_is k, rest_is k, bit_lt set k, c k, one_holds (closed? r js lv t1 b k) (self e), one_lt (p k), kept)
    | no ne ↦ left_is k ∙ ap₂ ◌-◌ (rest_is k ∙ ap₂ ◌-◌ (h k ne) (c k)) (ap₂ min (w k) (n k ∙ ap one (other ne))) ∙ kept
  ]
    where
      kept : (one (p k) - one (closed? r js lv t1 b k)) - min (one (watch? lv t1 k)) (one (meet? q (job r js t1) (job r js k))) ≡ one ((p k && not (closed? r js lv t1 b k)) && not (watch? lv t1 k && meet? q (job r js t1) (job r js k)))
      kept = left_over (p k) (closed? r js lv t1 b k) (watch? lv t1 k) (meet? q (job r js t1) (job r js k))

      self : t1 ≡ k → T (closed? r js lv t1 b k)
      self e = or_left (eqb t1 k) (meet? r.ww (prefix r b (job r js t1)) (job r js k) || (leb 1 (lv t1) && meet? r.ww (postfix r b (job r js t1)) (job r js k))) (rw e (eqb_refl k))

      other : ¬ (t1 ≡ k) → job_with r js q t1 k ≡ meet? q (job r js t1) (job r js k)
      other ne = same_test (job_with r js q t1 k) (meet? q (job r js t1) (job r js k)) (λ t. ((with_means r js t1 q k).0 t).1) (λ t. (with_means r js t1 q k).1 (ne, t))
