-- The jobs around a set, turn by turn.
use mathlib.Core.Path.{◌≡◌, ap}
use mathlib.Core.Logic.{◌⊎◌, inl, inr}
use mathlib.Core.List.{List}
use Prim.Native.Nat.{ℕ, ◌-◌, ◌<◌, max}
use native.Mathlib.Omega.{arith}
use lib.Dec.{eqb}
use lib.ListN.{get_or}
use Rattle.jobset.specs.Jobset.{bit, one, size, Lowest}
use Rattle.jobset.specs.JobsetLaws.{bit_lt, bit_none, digit, one_lt, single_is, single_has}
use Rattle.jobset.specs.SizeLaws.{size_less}
use Rattle.chain.specs.Paths.{Edge}
use Rattle.chain.specs.Layers.{Around}

module _ (clash : List ℕ) (jobs : ℕ) where
  -- the jobs found so far, and those of the set that are yet to be looked at
  pub record Gathering (near left : ℕ) : Type 0 where
    pub held : (j : ℕ) → bit left j ≡ 1 → bit jobs j ≡ 1
    pub sound : (k : ℕ) → bit near k ≡ 1 → (j : ℕ) × (bit jobs j ≡ 1) × Edge clash j k
    pub whole : (j k : ℕ) → bit jobs j ≡ 1 → Edge clash j k → (bit left j ≡ 1) ⊎ (bit near k ≡ 1)

  pub around_starts : Gathering 0 jobs
  around_starts = record { held = λ j h. h; sound = λ k h. absurd (omega (arith, bit_none k)); whole = λ j k h e. inl h }

  pub around_ends : (near left : ℕ) → left ≡ 0 → Gathering near left → Around clash jobs near
  around_ends near left z g = record {
    sound = g.sound;
    whole = λ j k h e. elim (g.whole j k h e) [
      | inl l ↦ absurd (omega (arith, bit_none j, ap (λ (x : ℕ). bit x j) z))
      | inr n ↦ n
    ];
  }

  -- what a turn of the loop leaves
  pub record Gathered (near left near' left' : ℕ) : Type 0 where
    pub next : Gathering near' left'
    pub falls : size 32 left' < size 32 left

  module _ (near left job alone near' left' : ℕ) (g : Gathering near left) (low : Lowest 32 left job)
      (is_near : (k : ℕ) → bit near' k ≡ max (bit near k) (bit (get_or clash job 0) k))
      (is_alone : (k : ℕ) → bit alone k ≡ one (eqb job k))
      (is_left : (k : ℕ) → bit left' k ≡ bit left k - bit alone k)
    where
      sounds : (k : ℕ) → bit near' k ≡ 1 → (j : ℕ) × (bit jobs j ≡ 1) × Edge clash j k
      sounds k h = elim (digit (bit near k) (bit_lt near k)) [
        | inl z ↦ (job, g.held job low.member, omega (arith, is_near k))
        | inr o ↦ g.sound k o
      ]

      -- the job looked at, or one that is left
      stays : (j k : ℕ) → Edge clash j k → bit left j ≡ 1 → (bit left' j ≡ 1) ⊎ (bit near' k ≡ 1)
      stays j k e l = elim (digit (one (eqb job j)) (one_lt (eqb job j))) [
        | inl z ↦ inl (omega (arith, is_left j, is_alone j))
        | inr o ↦ let q : Edge clash job k = rw (single_is job j o) e in inr (omega (arith, is_near k, bit_lt near k))
      ]

      wholes : (j k : ℕ) → bit jobs j ≡ 1 → Edge clash j k → (bit left' j ≡ 1) ⊎ (bit near' k ≡ 1)
      wholes j k h e = elim (g.whole j k h e) [
        | inl l ↦ stays j k e l
        | inr n ↦ inr (omega (arith, is_near k, bit_lt (get_or clash job 0) k))
      ]

      pub around_turn : Gathered near left near' left'
      around_turn = record {
        next = record { held = λ j h. g.held j (omega (arith, is_left j, bit_lt left j)); sound = sounds; whole = wholes };
        falls = size_less 32 left' left job (λ k q. omega (arith, is_left k)) low.below (omega (arith, is_left job, is_alone job, single_has job, low.member));
      }
