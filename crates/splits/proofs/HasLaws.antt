-- Laws of sets that have just the jobs that pass a test.
use Rattle.std.specs.Prelude.{◌≡◌, refl, ◌↔◌, Bool, true, false, ◌&&◌, ◌||◌, not, ℕ, ◌-◌, min, max, T}
use Rattle.std.proofs.Common.{sym, ap, ap₂, ◌∙◌, arith}
use Rattle.jobset.specs.Jobset.{bit, one}
use Rattle.jobset.specs.JobsetLaws.{one_lt, one_or, one_not, one_holds, holds_one}
use Rattle.conflicts.specs.Sets.{Has}

module _ (m : ℕ) (p : ℕ → Bool) (h : Has m p) (k : ℕ) where
  -- a job is in the set where it passes, and out of it where it doesn't
  pub has_in : (bit m k ≡ 1) ↔ T (p k)
  has_in = (λ e. holds_one (p k) (sym (h k) ∙ e), λ t. h k ∙ one_holds (p k) t)

  pub has_out : (bit m k ≡ 0) ↔ T (not (p k))
  has_out = (λ e. holds_one (not (p k)) (omega (arith, one_not (p k), h k)), λ t. omega (arith, one_not (p k), h k, one_holds (not (p k)) t, one_lt (p k)))

-- jobs that come to a set, and two sets in one
pub has_also : (a m : ℕ) (p q : ℕ → Bool) → Has a p → ((k : ℕ) → bit m k ≡ max (bit a k) (one (q k))) → Has m (λ k. p k || q k)
has_also a m p q h e k = e k ∙ ap (λ (x : ℕ). max x (one (q k))) (h k) ∙ sym (one_or (p k) (q k))

pub has_or : (a b m : ℕ) (p q : ℕ → Bool) → Has a p → Has b q → ((k : ℕ) → bit m k ≡ max (bit a k) (bit b k)) → Has m (λ k. p k || q k)
has_or a b m p q h l e = has_also a m p q h (λ k. e k ∙ ap (max (bit a k)) (l k))

-- a job that passes and is neither closed nor both watched and noticed
pub left_over : (p c w q : Bool) → (one p - one c) - min (one w) (one q) ≡ one ((p && not c) && not (w && q))
unfolding one
left_over true true w q = omega arith
left_over true false true true = refl
left_over true false true false = refl
left_over true false false q = omega arith
left_over false c w q = omega arith

-- what two sets leave of a set, the second where it meets a third
pub has_left : (set closed watch noticed rest left : ℕ) (p c w q : ℕ → Bool) → Has set p → Has closed c → Has watch w → Has noticed q
    → ((k : ℕ) → bit rest k ≡ bit set k - bit closed k) → ((k : ℕ) → bit left k ≡ bit rest k - min (bit watch k) (bit noticed k))
    → Has left (λ k. (p k && not (c k)) && not (w k && q k))
has_left set closed watch noticed rest left p c w q hp hc hw hq rest_is left_is k =
    left_is k ∙ ap₂ ◌-◌ (rest_is k ∙ ap₂ ◌-◌ (hp k) (hc k)) (ap₂ min (hw k) (hq k)) ∙ left_over (p k) (c k) (w k) (q k)
