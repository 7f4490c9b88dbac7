-- The loop that works out condition 5, turn by turn.
use mathlib.Core.Path.{◌≡◌, ap₂, ◌∙◌}
use mathlib.Core.List.{List}
use Prim.Native.Nat.{ℕ, suc, ◌+◌, ◌*◌, ◌≤◌, ◌<◌, max}
use native.Mathlib.Omega.{arith}
use lib.ListN.{length, set, length-set}
use Rattle.theory.specs.Form1.{form1}
use Rattle.jobset.specs.Jobset.{bit}
use Rattle.conflicts.specs.Sets.{over}
use Rattle.splits.specs.Steps.{Besides, returning?, Returning, Under, ReturnsOf}
use Rattle.splits.proofs.ReturnLaws.{returns_last, returns_same, returns_more, returning_store}

module _ (kind writers : List ℕ) (t1 level back : ℕ) where
  -- the operations from b on are done, and `all` is the set for the one before them
  abbrev pub Going : List ℕ → ℕ → ℕ → Type 0
  Going last all b = (b ≤ 16) × (length last ≡ 16) × Under kind writers t1 level back (λ js lv. Besides t1 all (returning? form1 js lv t1 b) × Returning form1 js lv t1 b last)

  pub going_starts : (last : List ℕ) → length last ≡ 16 → Going last back 16
  going_starts last full = (omega arith, full, λ js lv ww_of rw_of wr_of clash_of s e h. (returns_last form1 js lv t1 s back h, record { lasts = λ b l q. absurd (omega arith) }))

  pub going_ends : (last : List ℕ) (all b : ℕ) → b ≡ 0 → Going last all b → ReturnsOf kind writers t1 level back last
  going_ends last all b e g = record { full = g.1; returns = λ js lv ww_of rw_of wr_of clash_of s l h. rw e at (g.2 js lv ww_of rw_of wr_of clash_of s l h).1 }

  module _ (last : List ℕ) (all m n : ℕ) (e : m ≡ suc n) (g : Going last all m) where
    -- at RC the next set has the jobs that conflict with this operation too
    pub going_low : t1 < 32 → level < 1 → (rw_at ww_at both more : ℕ) → rw_at ≡ over kind writers (16 * t1 + n) 1 → ww_at ≡ over kind writers (16 * t1 + n) 2
        → ((k : ℕ) → bit both k ≡ max (bit rw_at k) (bit ww_at k)) → ((k : ℕ) → bit more k ≡ max (bit all k) (bit both k)) → Going (set last n all) more n
    going_low small low rw_at ww_at both more p q both_is more_is = (
      omega (arith, g.0),
      length-set last n all ∙ g.1,
      λ js lv ww_of rw_of wr_of clash_of s l h. let old = g.2 js lv ww_of rw_of wr_of clash_of s l h in (
        returns_more form1 js lv t1 s n all both more small (omega (arith, g.0)) (omega arith) (λ k. both_is k ∙ ap₂ (λ (x y : ℕ). max (bit x k) (bit y k)) p q) more_is (rw e at old.0),
        returning_store form1 js lv t1 m n all last e (omega (arith, g.0)) g.1 old.0 old.1,
      ),
    )

    pub going_high : 1 ≤ level → Going (set last n all) all n
    going_high high = (
      omega (arith, g.0),
      length-set last n all ∙ g.1,
      λ js lv ww_of rw_of wr_of clash_of s l h. let old = g.2 js lv ww_of rw_of wr_of clash_of s l h in (
        returns_same form1 js lv t1 s n all (omega arith) (rw e at old.0),
        returning_store form1 js lv t1 m n all last e (omega (arith, g.0)) g.1 old.0 old.1,
      ),
    )
