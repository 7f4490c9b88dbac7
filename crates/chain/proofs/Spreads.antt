-- The spread from a set of jobs, turn by turn.
use mathlib.Core.Path.{◌≡◌, refl, ap, ◌∙◌}
use mathlib.Core.Logic.{◌⊎◌, inl, inr}
use mathlib.Core.List.{List, [], ◌∷◌, ◌++◌}
use Prim.Native.Nat.{ℕ, ◌+◌, ◌-◌, ◌<◌, ◌≤◌, max}
use native.Mathlib.Omega.{arith}
use lib.Dec.{eqb}
use lib.ListN.{get_or}
use Rattle.jobset.specs.Jobset.{bit, one, size, Lowest}
use Rattle.jobset.specs.JobsetLaws.{bit_lt, bit_none, digit, one_lt, single_is, single_has}
use Rattle.jobset.specs.SizeLaws.{size_le, size_sum_less}
use Rattle.chain.specs.Paths.{Edge, Open, Path, Joined}
use Rattle.chain.proofs.PathLaws.{path_more}

module _ (clash : List ℕ) (shut from : ℕ) where
  -- a path goes on from job k
  abbrev Onward : ℕ → Type 0
  Onward k = (bit from k ≡ 1) ⊎ Open shut k

  -- the jobs seen so far, and those of them whose conflicts are yet to be looked at
  pub record Spreading (seen todo : ℕ) : Type 0 where
    pub starts : (k : ℕ) → bit from k ≡ 1 → bit seen k ≡ 1
    pub held : (k : ℕ) → bit todo k ≡ 1 → (bit seen k ≡ 1) × Onward k
    pub sound : (k : ℕ) → bit seen k ≡ 1 → (j : ℕ) × (c : List ℕ) × (bit from j ≡ 1) × Path clash shut j k c
    pub done : (k l : ℕ) → bit seen k ≡ 1 → Onward k → bit todo k ≡ 0 → Edge clash k l → bit seen l ≡ 1

  pub spread_starts : Spreading from from
  spread_starts = record {
    starts = λ k h. h;
    held = λ k h. (h, inl h);
    sound = λ k h. (k, [], h, refl);
    done = λ k l h o z e. absurd (omega arith);
  }

  -- nothing is left to look at
  pub spread_ends : (seen todo : ℕ) → todo ≡ 0 → Spreading seen todo → Joined clash shut from seen
  spread_ends seen todo z s = record { sound = s.sound; whole = λ j k c h p. closed c j k (s.starts j h) (inl h) p }
    where
      idle : (k : ℕ) → bit todo k ≡ 0
      idle k = ap (λ (x : ℕ). bit x k) z ∙ bit_none k

      closed : (c : List ℕ) (j k : ℕ) → bit seen j ≡ 1 → Onward j → Path clash shut j k c → bit seen k ≡ 1
      closed [] j k h o p = rw p at h
      closed (l ∷ []) j k h o p = rw p.1 at (s.done j l h o (idle j) p.0)
      closed (l ∷ m ∷ c) j k h o p = closed (m ∷ c) l k (s.done j l h o (idle j) p.0) (inr p.1) p.2

  -- what a turn of the loop leaves
  pub record Turn (seen todo seen' todo' : ℕ) : Type 0 where
    pub next : Spreading seen' todo'
    pub falls : size 32 todo' + (32 - size 32 seen') < size 32 todo + (32 - size 32 seen)

  -- one turn of the loop, over the sets that it makes: what is new near the job, what of it is open, the job alone, and what else was to do
  module _ (seen todo job new fresh alone rest seen' todo' : ℕ) (s : Spreading seen todo) (low : Lowest 32 todo job)
      (is_new : (k : ℕ) → bit new k ≡ bit (get_or clash job 0) k - bit seen k)
      (is_fresh : (k : ℕ) → bit fresh k ≡ bit new k - bit shut k)
      (is_alone : (k : ℕ) → bit alone k ≡ one (eqb job k))
      (is_rest : (k : ℕ) → bit rest k ≡ bit todo k - bit alone k)
      (is_todo : (k : ℕ) → bit todo' k ≡ max (bit rest k) (bit fresh k))
      (is_seen : (k : ℕ) → bit seen' k ≡ max (bit seen k) (bit (get_or clash job 0) k))
    where
      to_do : (k : ℕ) → bit todo' k ≡ max (bit todo k - one (eqb job k)) (bit (get_or clash job 0) k - bit seen k - bit shut k)
      to_do k = rw (is_todo k, is_rest k, is_alone k, is_fresh k, is_new k)

      onward : Onward job
      onward = (s.held job low.member).1

      kept : (k : ℕ) → bit seen k ≡ 1 → bit seen' k ≡ 1
      kept k h = omega (arith, is_seen k, bit_lt (get_or clash job 0) k)

      came : (k : ℕ) → bit seen' k ≡ 1 → (bit seen k ≡ 1) ⊎ ((bit seen k ≡ 0) × Edge clash job k)
      came k h = elim (digit (bit seen k) (bit_lt seen k)) [ inl z ↦ inr (z, omega (arith, is_seen k)) | inr o ↦ inl o ]

      reached : (k : ℕ) → Edge clash job k → (j : ℕ) × (c : List ℕ) × (bit from j ≡ 1) × Path clash shut j k c
      reached k e = elim onward [
        | inl h ↦ (job, k ∷ [], h, (e, refl))
        | inr o ↦ let r = s.sound job (s.held job low.member).0 in (r.0, r.1 ++ (k ∷ []), r.2, path_more clash shut r.0 job k r.1 r.3 o e)
      ]

      helds : (k : ℕ) → bit todo' k ≡ 1 → (bit seen' k ≡ 1) × Onward k
      helds k h = elim (digit (bit todo k) (bit_lt todo k)) [
        | inl z ↦ (omega (arith, to_do k, is_seen k, bit_lt seen k, bit_lt (get_or clash job 0) k), inr (omega (arith, to_do k, bit_lt (get_or clash job 0) k)))
        | inr o ↦ (kept k (s.held k o).0, (s.held k o).1)
      ]

      -- the conflicts of the job itself
      here : (k l : ℕ) → one (eqb job k) ≡ 1 → Edge clash k l → bit seen' l ≡ 1
      here k l h e = let q : Edge clash job l = rw (single_is job k h) e in omega (arith, is_seen l, bit_lt seen l)

      first_seen : (k : ℕ) → bit seen k ≡ 0 → Edge clash job k → Onward k → bit todo' k ≡ 1
      first_seen k z e (inl h) = absurd (omega (arith, s.starts k h))
      first_seen k z e (inr o) = omega (arith, to_do k, bit_lt todo k)

      dones : (k l : ℕ) → bit seen' k ≡ 1 → Onward k → bit todo' k ≡ 0 → Edge clash k l → bit seen' l ≡ 1
      dones k l h o z e = elim (came k h) [
        | inl q ↦ elim (digit (one (eqb job k)) (one_lt (eqb job k))) [
          | inl n ↦ kept l (s.done k l q o (omega (arith, to_do k)) e)
          | inr n ↦ here k l n e
        ]
        | inr q ↦ absurd (omega (arith, first_seen k q.0 q.1 o))
      ]

      next : Spreading seen' todo'
      next = record {
        starts = λ k h. kept k (s.starts k h);
        held = helds;
        sound = λ k h. elim (came k h) [ inl o ↦ s.sound k o | inr e ↦ reached k e.1 ];
        done = dones;
      }

      -- a job that is newly to do is newly seen, and the job looked at is no longer to do
      falls : size 32 todo' + (32 - size 32 seen') < size 32 todo + (32 - size 32 seen)
      falls = omega (arith, size_le 32 seen', size_sum_less 32 todo' seen todo seen' job weight low.below lighter)
        where
          weight : (k : ℕ) → k < 32 → bit todo' k + bit seen k ≤ bit todo k + bit seen' k
          weight k q = omega (arith, to_do k, is_seen k, bit_lt seen k, bit_lt todo k, bit_lt (get_or clash job 0) k)

          lighter : bit todo' job + bit seen job < bit todo job + bit seen' job
          lighter = omega (arith, to_do job, is_seen job, single_has job, low.member, (s.held job low.member).0, bit_lt (get_or clash job 0) job)

      pub spread_turn : Turn seen todo seen' todo'
      spread_turn = record { next = next; falls = falls }
