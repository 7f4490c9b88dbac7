-- A list of levels, of which the sheet's jobs have the first.
use mathlib.Core.Path.{◌≡◌, sym, ap, ◌∙◌}
use mathlib.Core.Logic.{◌↔◌}
use mathlib.Core.Bool.{Bool, cond}
use mathlib.Core.List.{List}
use Prim.Native.Nat.{ℕ, ◌≤◌, ◌<◌, min}
use native.Mathlib.Omega.{arith}
use lib.Dec.{leb, ltb}
use lib.ListN.{length, take, get_or}
use lib.Seq.{get_or-take, length-take-le}
use borrow.Author.Tests.{lt-ltb, le-ltb}
use Rattle.jobset.specs.Jobset.{bit, one}
use Rattle.theory.specs.Danger.{Rule, Jobs, Robust}
use Rattle.theory.specs.Guards.{Paper}
use Rattle.theory.proofs.GuardLaws.{paper_lawful}
use Rattle.theory.proofs.KnownLaws.{t1_known}
use Rattle.theory.proofs.DangerLaws.{robust_higher}
use Rattle.theory.specs.Lowest.{level}
use Rattle.conflicts.specs.Sets.{Has}
use Rattle.splits.specs.Splits.{ssi?, watch?}
use Rattle.splits.proofs.WatchLaws.{watch_has}
use Rattle.verdict.specs.Verdict.{IsSplit, RobustFor}

-- RC for what is beyond the jobs
abbrev pub within : ℕ → List ℕ → ℕ → ℕ
within jobs levels k = cond (ltb k jobs) (level levels k) 0

pub within_at : (jobs : ℕ) (levels : List ℕ) (k : ℕ) → k < jobs → within jobs levels k ≡ level levels k
within_at jobs levels k h = ap (λ (b : Bool). cond b (level levels k) 0) (lt-ltb k jobs h)

within_beyond : (jobs : ℕ) (levels : List ℕ) (k : ℕ) → jobs ≤ k → within jobs levels k ≡ 0
within_beyond jobs levels k h = ap (λ (b : Bool). cond b (level levels k) 0) (le-ltb k jobs h)

-- what is watched with a job of the sheet at its level
pub watch_within : (jobs : ℕ) (levels : List ℕ) (ssi watch t1 : ℕ) → t1 < jobs → Has ssi (ssi? jobs levels) → ((k : ℕ) → bit watch k ≡ min (one (leb 2 (level levels t1))) (bit ssi k))
    → Has watch (watch? (within jobs levels) t1)
watch_within jobs levels ssi watch t1 h hs e =
    watch_has (within jobs levels) t1 jobs levels ssi watch (within_at jobs levels) (λ k q. omega (arith, within_beyond jobs levels k q)) hs
    (λ k. e k ∙ ap (λ (l : ℕ). min (one (leb 2 l)) (bit ssi k)) (sym (within_at jobs levels t1 h)))

-- What is shown of a job under all levels that give it the one read from the front of the list, and with what is watched then,
-- holds under the levels of the list.
module _ (P : (ℕ → ℕ) → Type 0) (jobs : ℕ) (levels : List ℕ) (few : jobs ≤ length levels) (ssi watch t1 : ℕ) (read : t1 < length (take jobs levels)) where
  known : t1 < jobs
  known = omega (arith, read, length-take-le jobs levels few)

  same : level levels t1 ≡ get_or (take jobs levels) t1 0
  same = sym (get_or-take jobs levels t1 0 known)

  pub under_list : Has ssi (ssi? jobs levels) → ((k : ℕ) → bit watch k ≡ min (one (leb 2 (get_or (take jobs levels) t1 0))) (bit ssi k))
      → ((lv : ℕ → ℕ) → lv t1 ≡ get_or (take jobs levels) t1 0 → Has watch (watch? lv t1) → P lv) → P (within jobs levels)
  under_list hs e f =
      f (within jobs levels) (within_at jobs levels t1 known ∙ same)
      (watch_within jobs levels ssi watch t1 known hs (λ k. e k ∙ ap (λ (l : ℕ). min (one (leb 2 l)) (bit ssi k)) (sym same)))

module _ (r : Rule) (js : Jobs r) (levels : List ℕ) where
  same_within : Robust r (Paper r) js (within (length js) levels) ↔ RobustFor r js levels
  same_within = (
    robust_higher r (Paper r) (paper_lawful r) js (within (length js) levels) (level levels) (λ k h. omega (arith, within_at (length js) levels k h)),
    robust_higher r (Paper r) (paper_lawful r) js (level levels) (within (length js) levels) (λ k h. omega (arith, within_at (length js) levels k h)),
  )

  -- robust exactly if no job is split
  pub none_split : (jobs : ℕ) → length js ≡ jobs → ((k : ℕ) → k < jobs → ¬ IsSplit r js (within jobs levels) k) → RobustFor r js levels
  none_split jobs e none = same_within.0 (λ t1 b1 t2 tm d. none t1 (omega (arith, t1_known r (Paper r) js d)) (b1, t2, tm, rw (← e) d))

  pub one_split : (jobs k : ℕ) → length js ≡ jobs → IsSplit r js (within jobs levels) k → ¬ RobustFor r js levels
  one_split jobs k e d ok = let s = rw (← e) at d in same_within.1 ok k s.0 s.1 s.2 s.3
