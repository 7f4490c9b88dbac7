-- Condition 5, from the last operation of t1 back.
use mathlib.Core.Path.{◌≡◌, sym, ap, ap₂, subst, ◌∙◌}
use mathlib.Core.Logic.{inl, inr}
use mathlib.Core.Bool.{Bool, ◌&&◌, ◌||◌}
use mathlib.Core.List.{List}
use Prim.Native.Nat.{ℕ, suc, ◌+◌, ◌*◌, ◌≤◌, ◌<◌, max}
use native.Mathlib.Omega.{arith}
use lib.Dec.{T, ltb, ltb→lt, lt→ltb}
use lib.ListN.{length, set, drop, length-drop}
use Rattle.theory.specs.Find.{some?, meet?}
use Rattle.theory.proofs.FindLaws.{and_left, and_right, and_both, or_left, or_right, or_cases, some_take, some_drop, meet_second, meet_swap}
use Rattle.theory.specs.Danger.{Rule, Jobs, wr, clash, job, alone}
use Rattle.jobset.specs.Jobset.{bit, one}
use Rattle.jobset.specs.JobsetLaws.{one_or}
use Rattle.conflicts.specs.Sets.{Has, Sets, over, op_with, job_with}
use Rattle.conflicts.proofs.Among.{same_test}
use Rattle.conflicts.proofs.RelationLaws.{meet_or}
use Rattle.splits.specs.Splits.{return?}
use Rattle.splits.specs.Steps.{Besides, returning?, Returning}
use Rattle.splits.proofs.SplitsLaws.{with_means}
use Rattle.splits.proofs.JoinedLaws.{clash_back}
use Rattle.splits.proofs.PartLaws.{some_from_lem}
use Rattle.splits.proofs.StoreLaws.{set_each}

-- a conflict is one of the three
clash_parts : (r : Rule) (xs ys : List r.Op) → meet? (clash r) xs ys ≡ (meet? r.ww xs ys || meet? (wr r) xs ys) || meet? r.rw xs ys
clash_parts r xs ys = sym (ap (◌|| meet? r.rw xs ys) (meet_or r.ww (wr r) xs ys) ∙ meet_or (λ x y. r.ww x y || wr r x y) r.rw xs ys)

-- the set worked out so far is stored for the operation before
pub returning_store : (r : Rule) (js : Jobs r) (lv : ℕ → ℕ) (t1 m n all : ℕ) (last : List ℕ) → m ≡ suc n → n < 16 → length last ≡ 16
    → Besides t1 all (returning? r js lv t1 m) → Returning r js lv t1 m last → Returning r js lv t1 n (set last n all)
returning_store r js lv t1 m n all last e at full h w = record {
  lasts = λ b l q. set_each (λ b x. Besides t1 x (return? r js lv t1 b)) last n all (omega arith) (rw e at h) b (λ ne. w.lasts b (omega arith) q);
}

module _ (r : Rule) (js : Jobs r) (lv : ℕ → ℕ) (t1 : ℕ) {kind writers ww_of rw_of wr_of clash_of : List ℕ} (s : Sets r js kind writers ww_of rw_of wr_of clash_of) where
  -- no operation comes after the last
  pub returns_last : (back : ℕ) → Has back (job_with r js (wr r) t1) → Besides t1 back (returning? r js lv t1 16)
  returns_last back h k ne = h k ∙ ap one (same_test (job_with r js (wr r) t1 k) (returning? r js lv t1 16 k) there back_again)
    where
      late : Bool
      late = meet? (clash r) (job r js k) (drop 16 (job r js t1))

      there : T (job_with r js (wr r) t1 k) → T (returning? r js lv t1 16 k)
      there t = or_left (meet? r.rw (job r js k) (job r js t1)) (ltb (lv t1) 1 && late) (meet_swap (wr r) r.rw (λ x y q. q) (job r js t1) (job r js k) ((with_means r js t1 (wr r) k).0 t).1)

      back_again : T (returning? r js lv t1 16 k) → T (job_with r js (wr r) t1 k)
      back_again t = elim (or_cases (meet? r.rw (job r js k) (job r js t1)) (ltb (lv t1) 1 && late) t) [
        | inl q ↦ (with_means r js t1 (wr r) k).1 (ne, meet_swap r.rw (wr r) (λ x y q. q) (job r js k) (job r js t1) q)
        | inr q ↦ absurd (omega (arith, meet_second (clash r) (job r js k) (drop 16 (job r js t1)) (and_right (ltb (lv t1) 1) late q), length-drop 16 (job r js t1), s.short t1))
      ]

  -- above RC the later operations don't count
  pub returns_same : (n all : ℕ) → 1 ≤ lv t1 → Besides t1 all (returning? r js lv t1 (suc n)) → Besides t1 all (returning? r js lv t1 n)
  returns_same n all above h k ne = h k ne ∙ ap one (same_test (returning? r js lv t1 (suc n) k) (returning? r js lv t1 n k) (skip (suc n) n) (skip n (suc n)))
    where
      back : Bool
      back = meet? r.rw (job r js k) (job r js t1)

      late : ℕ → Bool
      late m = ltb (lv t1) 1 && meet? (clash r) (job r js k) (drop m (job r js t1))

      skip : (m o : ℕ) → T (returning? r js lv t1 m k) → T (returning? r js lv t1 o k)
      skip m o t = elim (or_cases back (late m) t) [ inl q ↦ or_left back (late o) q | inr q ↦ absurd (omega (arith, ltb→lt (lv t1) 1 (and_left (ltb (lv t1) 1) (meet? (clash r) (job r js k) (drop m (job r js t1))) q))) ]

  -- at RC one operation more does
  module _ (n all both more : ℕ) (small : t1 < 32) (at : n < 16) (low : lv t1 < 1)
      (both_is : (k : ℕ) → bit both k ≡ max (bit (over kind writers (16 * t1 + n) 1) k) (bit (over kind writers (16 * t1 + n) 2) k))
      (more_is : (k : ℕ) → bit more k ≡ max (bit all k) (bit both k))
    where
      pub returns_more : Besides t1 all (returning? r js lv t1 (suc n)) → Besides t1 more (returning? r js lv t1 n)
      returns_more h k ne =
          more_is k
          ∙ ap₂ max (h k ne) (both_is k ∙ ap₂ max (s.op_rw t1 n small at k) (s.op_ww t1 n small at k) ∙ sym (one_or next_rw next_ww))
          ∙ sym (one_or (returning? r js lv t1 (suc n) k) (next_rw || next_ww))
          ∙ ap one (same_test (returning? r js lv t1 (suc n) k || (next_rw || next_ww)) (returning? r js lv t1 n k) up down)
        where
          next_rw : Bool
          next_rw = op_with r js r.rw t1 n k

          next_ww : Bool
          next_ww = op_with r js r.ww t1 n k

          next_wr : Bool
          next_wr = op_with r js (wr r) t1 n k

          back : Bool
          back = meet? r.rw (job r js k) (job r js t1)

          late : ℕ → Bool
          late m = meet? (clash r) (job r js k) (drop m (job r js t1))

          -- the conflicts of the next operation and of those after it, seen from t1
          here : Bool
          here = meet? (clash r) (alone r n (job r js t1)) (job r js k)

          after : Bool
          after = meet? (clash r) (drop (suc n) (job r js t1)) (job r js k)

          from : meet? (clash r) (drop n (job r js t1)) (job r js k) ≡ here || after
          from = some_from_lem (λ x. some? (clash r x) (job r js k)) n (job r js t1)

          parts : here ≡ (next_ww || next_wr) || next_rw
          parts = clash_parts r (alone r n (job r js t1)) (job r js k)

          comes : T (here || after) → T (returning? r js lv t1 n k)
          comes t = or_right back (ltb (lv t1) 1 && late n) (and_both (ltb (lv t1) 1) (late n) (lt→ltb (lv t1) 1 low) (clash_back r js s (drop n (job r js t1)) (job r js k) (subst T (sym from) t)))

          up : T (returning? r js lv t1 (suc n) k || (next_rw || next_ww)) → T (returning? r js lv t1 n k)
          up t = elim (or_cases (returning? r js lv t1 (suc n) k) (next_rw || next_ww) t) [
            | inl q ↦ elim (or_cases back (ltb (lv t1) 1 && late (suc n)) q) [
              | inl b ↦ or_left back (ltb (lv t1) 1 && late n) b
              | inr l ↦ comes (or_right here after (clash_back r js s (job r js k) (drop (suc n) (job r js t1)) (and_right (ltb (lv t1) 1) (late (suc n)) l)))
            ]
            | inr q ↦ comes (or_left here after (subst T (sym parts) (elim (or_cases next_rw next_ww q) [
              | inl a ↦ or_right (next_ww || next_wr) next_rw a
              | inr a ↦ or_left (next_ww || next_wr) next_rw (or_left next_ww next_wr a)
            ])))
          ]

          before : T (returning? r js lv t1 (suc n) k) → T (returning? r js lv t1 (suc n) k || (next_rw || next_ww))
          before = or_left (returning? r js lv t1 (suc n) k) (next_rw || next_ww)

          -- an operation that Tm is rw with is one of t1's
          turned : T next_wr → T back
          turned t = meet_swap (wr r) r.rw (λ x y q. q) (job r js t1) (job r js k) (some_drop (λ x. some? (wr r x) (job r js k)) n (job r js t1) (some_take (λ x. some? (wr r x) (job r js k)) 1 (drop n (job r js t1)) t))

          down : T (returning? r js lv t1 n k) → T (returning? r js lv t1 (suc n) k || (next_rw || next_ww))
          down t = elim (or_cases back (ltb (lv t1) 1 && late n) t) [
            | inl b ↦ before (or_left back (ltb (lv t1) 1 && late (suc n)) b)
            | inr l ↦ elim (or_cases here after (subst T from (clash_back r js s (job r js k) (drop n (job r js t1)) (and_right (ltb (lv t1) 1) (late n) l)))) [
              | inl q ↦ elim (or_cases (next_ww || next_wr) next_rw (subst T parts q)) [
                | inl a ↦ elim (or_cases next_ww next_wr a) [
                  | inl w ↦ or_right (returning? r js lv t1 (suc n) k) (next_rw || next_ww) (or_right next_rw next_ww w)
                  | inr w ↦ before (or_left back (ltb (lv t1) 1 && late (suc n)) (turned w))
                ]
                | inr a ↦ or_right (returning? r js lv t1 (suc n) k) (next_rw || next_ww) (or_left next_rw next_ww a)
              ]
              | inr q ↦ before (or_right back (ltb (lv t1) 1 && late (suc n)) (and_both (ltb (lv t1) 1) (late (suc n)) (lt→ltb (lv t1) 1 low) (clash_back r js s (drop (suc n) (job r js t1)) (job r js k) q)))
            ]
          ]
