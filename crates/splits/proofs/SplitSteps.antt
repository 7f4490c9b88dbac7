-- The loop that works out the first and the last jobs, turn by turn.
use mathlib.Core.Path.{◌≡◌, ap, ◌∙◌}
use mathlib.Core.List.{List}
use Prim.Native.Nat.{ℕ, suc, ◌+◌, ◌*◌, ◌-◌, ◌≤◌, ◌<◌, min, max}
use native.Mathlib.Omega.{arith}
use lib.Dec.{leb, eqb}
use lib.ListN.{length, get_or, set, length-set}
use lib.Seq.{get_or-set_other}
use Rattle.theory.specs.Danger.{Jobs, wr}
use Rattle.theory.specs.Form1.{form1}
use Rattle.jobset.specs.Jobset.{bit, one}
use Rattle.conflicts.specs.Sets.{Has, Sets, over, op_with}
use Rattle.splits.specs.Splits.{watch?, first?, last?, return?, SplitsOf}
use Rattle.splits.specs.Steps.{closing?, Splitting, ReturnsOf}
use Rattle.splits.proofs.StoreLaws.{set_each}
use Rattle.splits.proofs.CloseLaws.{close_start, close_next, sift}

-- what one turn does at operation n
pub record Turn (kind writers rw_of wr_of : List ℕ) (t1 watch n last_at closed more first_at left : ℕ) : Type 0 where
  pub rw_at : ℕ
  pub ww_at : ℕ
  pub free : ℕ
  pub rest : ℕ
  pub rw_is : rw_at ≡ over kind writers (16 * t1 + n) 1
  pub ww_is : ww_at ≡ over kind writers (16 * t1 + n) 2
  pub more_is : (k : ℕ) → bit more k ≡ max (bit closed k) (bit ww_at k)
  pub free_is : (k : ℕ) → bit free k ≡ bit rw_at k - bit more k
  pub first_is : (k : ℕ) → bit first_at k ≡ bit free k - min (bit watch k) (bit (get_or wr_of t1 0) k)
  pub rest_is : (k : ℕ) → bit rest k ≡ bit last_at k - bit more k
  pub left_is : (k : ℕ) → bit left k ≡ bit rest k - min (bit watch k) (bit (get_or rw_of t1 0) k)

module _ (kind writers ww_of rw_of wr_of : List ℕ) (t1 level watch : ℕ) where
  -- the operations before b are done
  abbrev pub Going : List ℕ → List ℕ → ℕ → ℕ → Type 0
  Going first last closed b =
      (b ≤ 16)
      × (length first ≡ 16)
      × (length last ≡ 16)
      × ((js : Jobs form1) (lv : ℕ → ℕ) (clash_of : List ℕ) → Sets form1 js kind writers ww_of rw_of wr_of clash_of → lv t1 ≡ level → Has watch (watch? lv t1) → Splitting form1 js lv t1 b closed first last)

  pub going_starts : t1 < 32 → (first last : List ℕ) (closed : ℕ) → length first ≡ 16 → ReturnsOf kind writers t1 level (get_or wr_of t1 0) last
      → ((k : ℕ) → bit closed k ≡ max (one (eqb t1 k)) (min (one (leb 1 level)) (bit (get_or ww_of t1 0) k))) → Going first last closed 0
  going_starts small first last closed full w closed_is = (
    omega arith,
    full,
    w.full,
    λ js lv clash_of s l h. record {
      closes = close_start form1 js lv t1 (get_or ww_of t1 0) closed (s.job_ww t1 small) (rw l closed_is);
      firsts = λ b q. absurd (omega arith);
      lasts = λ b q. absurd (omega arith);
      rest = w.returns js lv ww_of rw_of wr_of clash_of s l (s.job_wr t1 small);
    },
  )

  pub going_ends : (first last : List ℕ) (closed b : ℕ) → 16 ≤ b → Going first last closed b → SplitsOf kind writers ww_of rw_of wr_of t1 level watch first last
  going_ends first last closed b e g = record {
    first_full = g.1;
    last_full = g.2;
    splits = λ js lv clash_of s l h. let w = g.3 js lv clash_of s l h in record { firsts = λ o q. w.firsts o (omega arith); lasts = λ o q. w.lasts o (omega arith) };
  }

  module _ (small : t1 < 32) (first last : List ℕ) (closed m n more first_at left : ℕ) (e : m ≡ suc n) (at : n < 16) (g : Going first last closed n)
      (t : Turn kind writers rw_of wr_of t1 watch n (get_or last n 0) closed more first_at left)
    where
      module _ (js : Jobs form1) (lv : ℕ → ℕ) (clash_of : List ℕ) (s : Sets form1 js kind writers ww_of rw_of wr_of clash_of) (l : lv t1 ≡ level) (h : Has watch (watch? lv t1)) where
        old : Splitting form1 js lv t1 n closed first last
        old = g.3 js lv clash_of s l h

        closes : Has more (closing? form1 js lv t1 (suc n))
        closes = close_next form1 js lv t1 s n closed more small at old.closes (λ k. t.more_is k ∙ ap (λ (x : ℕ). max (bit closed k) (bit x k)) t.ww_is)

        first_has : Has first_at (first? form1 js lv t1 n)
        first_has =
            sift form1 js lv t1 (op_with form1 js form1.rw t1 n) (wr form1) n t.rw_at more watch (get_or wr_of t1 0) t.free first_at
            (λ k _. ap (λ (x : ℕ). bit x k) t.rw_is ∙ s.op_rw t1 n small at k) closes h (s.job_wr t1 small) t.free_is t.first_is

        last_has : Has left (last? form1 js lv t1 n)
        last_has =
            sift form1 js lv t1 (return? form1 js lv t1 n) form1.rw n (get_or last n 0) more watch (get_or rw_of t1 0) t.rest left
            (old.rest.lasts n (omega arith) at) closes h (s.job_rw t1 small) t.rest_is t.left_is

        next : Splitting form1 js lv t1 m more (set first n first_at) (set last n left)
        next = record {
          closes = rw e closes;
          firsts = λ b q. set_each (λ b x. Has x (first? form1 js lv t1 b)) first n first_at (omega (arith, g.1)) first_has b (λ ne. old.firsts b (omega arith));
          lasts = λ b q. set_each (λ b x. Has x (last? form1 js lv t1 b)) last n left (omega (arith, g.2)) last_has b (λ ne. old.lasts b (omega arith));
          rest = record { lasts = λ b p q k ne. ap (λ (x : ℕ). bit x k) (get_or-set_other last n b left 0 (λ d. omega arith)) ∙ old.rest.lasts b (omega arith) q k ne };
        }

      pub going_next : Going (set first n first_at) (set last n left) more m
      going_next = (omega arith, length-set first n first_at ∙ g.1, length-set last n left ∙ g.2, next)
