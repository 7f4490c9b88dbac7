-- The order of four numbers is the order of their keys; what the walk has passed is a range of keys with no danger in it.
use mathlib.Core.Path.{◌≡◌, refl}
use mathlib.Core.Logic.{◌⊎◌, inl, inr}
use mathlib.Core.List.{[], ◌∷◌}
use Prim.Native.Nat.{ℕ, ◌+◌, ◌<◌, ◌≤◌}
use native.Mathlib.Decide.{dec_lt}
use native.Mathlib.Omega.{arith}
use Rattle.std.proofs.lemmas.Bool.{cases_order}
use Rattle.theory.specs.Danger.{Rule, Jobs, Guard, Danger}
use Rattle.theory.specs.Shown.{Before}
use Rattle.theory.specs.Walk as theory
use Rattle.theory.specs.Walk.{row, from_one_lem, Names, Next, Walks}
use Rattle.walk.specs.Answers.{named}
use Rattle.walk.specs.Starts.{key, key_at, Starts}
use Rattle.walk.specs.declared.four.Four.{Four}
use Rattle.walk.specs.declared.four.Indices.{Indices}

-- ---- the order
module _ (a b c d x y z w : ℕ) (small : (b < 256) × (c < 256) × (d < 256)) (small' : (y < 256) × (z < 256) × (w < 256)) where
  pub before_key : Before (a ∷ b ∷ c ∷ d ∷ []) (x ∷ y ∷ z ∷ w ∷ []) → key a b c d < key x y z w
  before_key h = grind arith

  pub key_before : key a b c d < key x y z w → Before (a ∷ b ∷ c ∷ d ∷ []) (x ∷ y ∷ z ∷ w ∷ [])
  key_before h = grind arith

-- ---- what the walk has passed, whatever a danger is
module _ (D : ℕ → ℕ → ℕ → ℕ → Type 0) where
  -- a danger names jobs and operations that a sheet has
  pub record Inside (n : ℕ) : Type 0 where
    pub known : (t b f l : ℕ) → D t b f l → (t < n) × (b < 16) × (f < 32) × (l < 32)

  -- no danger has its key from lo to below hi
  unfoldable pub Clean : ℕ → ℕ → Type 0
  Clean lo hi = (t b f l : ℕ) → D t b f l → lo ≤ key t b f l → key t b f l < hi → ⊥

  -- the search has come from a key to four numbers, and passed no danger
  pub record Passed (from t b f l : ℕ) : Type 0 where
    pub clean : Clean from (key t b f l)
    pub rises : from ≤ key t b f l
    pub small : (b < 256) × (f < 256) × (l < 256)

  pub set_out : (t b f l : ℕ) → (b < 256) × (f < 256) × (l < 256) → Passed (key t b f l) t b f l
  unfolding Clean
  set_out t b f l h = record { clean = λ t' b' f' l' d p q. omega arith; rises = omega arith; small = h }

  pub go_on : {i t b f l t' b' f' l' : ℕ} → Passed i t b f l → Passed (key t b f l) t' b' f' l' → Passed i t' b' f' l'
  unfolding Clean
  go_on {t = t} {b} {f} {l} x y = record {
    clean = λ t'' b'' f'' l'' d p q. elim (dec_lt (key t'' b'' f'' l'') (key t b f l)) [
      | yes z ↦ x.clean t'' b'' f'' l'' d p z
      | no z ↦ y.clean t'' b'' f'' l'' d (omega (arith, z)) q
    ];
    rises = omega (arith, x.rises, y.rises);
    small = y.small;
  }

  at_same : (t b f l t' b' f' l' : ℕ) → t' ≡ t → b' ≡ b → f' ≡ f → l' ≡ l → D t' b' f' l' → D t b f l
  at_same t b f l t' b' f' l' e₁ e₂ e₃ e₄ d = rw (e₁, e₂, e₃, e₄) at d

  module _ (n : ℕ) (r : Inside n) (i t b f l : ℕ) (x : Passed i t b f l) where
    -- one more that is no danger
    pub pass_one : l < 32 → ¬ D t b f l → Passed i t b f (l + 1)
    unfolding Clean
    pass_one hl none = go_on x (record {
      clean = λ t' b' f' l' d p q.
          let k = r.known t' b' f' l' d in
          none (at_same t b f l t' b' f' l' (omega arith) (omega arith) (omega arith) (omega arith) d);
      rises = omega arith;
      small = omega (arith, x.small);
    })

    -- no danger left with one first job, with one operation, with one split job
    pub pass_first : f < 32 → ((m : ℕ) → l ≤ m → ¬ D t b f m) → Passed i t b (f + 1) 0
    unfolding Clean
    pass_first hf none = go_on x (record {
      clean = λ t' b' f' l' d p q.
          let k = r.known t' b' f' l' d in
          none l' (omega arith) (at_same t b f l' t' b' f' l' (omega arith) (omega arith) (omega arith) refl d);
      rises = omega (arith, x.small);
      small = omega (arith, x.small);
    })

    pub pass_operation : b < 16 → ((k m : ℕ) → f ≤ k → ¬ D t b k m) → Passed i t (b + 1) 0 0
    unfolding Clean
    pass_operation hb none = go_on x (record {
      clean = λ t' b' f' l' d p q.
          let k = r.known t' b' f' l' d in
          none f' l' (omega arith) (at_same t b f' l' t' b' f' l' (omega arith) (omega arith) refl refl d);
      rises = omega (arith, x.small);
      small = omega (arith, x.small);
    })

    pub pass_job : 16 ≤ b → Passed i (t + 1) 0 0 0
    unfolding Clean
    pass_job over = go_on x (record {
      clean = λ t' b' f' l' d p q. let k = r.known t' b' f' l' d in omega (arith, x.small);
      rises = omega (arith, x.small);
      small = omega arith;
    })

-- ---- the answer
module _ (r : Rule) (g : Guard r) (js : Jobs r) (lv : ℕ → ℕ) (D : ℕ → ℕ → ℕ → ℕ → Type 0) (n : ℕ) (inside : Inside D n)
    (all : (t b f l : ℕ) → Danger r g js lv t b f l → D t b f l) (q : Four) (s : Indices) (e : Starts q s) where
  pub at_end : (t b f l : ℕ) → n ≤ t → Passed D (key_at s) t b f l → Walks r g js lv (named q) theory.end
  unfolding Clean
  at_end t b f l h x p (t', b', f', l', same, d) up =
      let k = inside.known t' b' f' l' (all t' b' f' l' d) in
      x.clean t' b' f' l' (all t' b' f' l' d) ((e.above t' b' f' l' (omega arith) (omega arith) (omega arith)).0 (rw same at up)) (omega arith)

  pub at_found : (t b f l : ℕ) → Danger r g js lv t b f l → Passed D (key_at s) t b f l → Next r g js lv (named q) (from_one_lem t b f l)
  unfolding Clean
  at_found t b f l d x = record {
    named = (t, b, f, l, refl, d);
    above = let k = inside.known t b f l (all t b f l d) in (e.above t b f l (omega arith) (omega arith) (omega arith)).1 x.rises;
    first = later;
  }
    where
      same : (t' b' f' l' : ℕ) → t ≡ t' → b ≡ b' → f ≡ f' → l ≡ l' → from_one_lem t b f l ≡ from_one_lem t' b' f' l'
      same t' b' f' l' e₁ e₂ e₃ e₄ = cc

      later : (p : theory.Four) → Names r g js lv p → Before (row (named q)) (row p) → (from_one_lem t b f l ≡ p) ⊎ Before (row (from_one_lem t b f l)) (row p)
      later p (t', b', f', l', is, d') up =
          let k = inside.known t b f l (all t b f l d) in
          let k' = inside.known t' b' f' l' (all t' b' f' l' d') in
          let from : key_at s ≤ key t' b' f' l' = (e.above t' b' f' l' (omega arith) (omega arith) (omega arith)).0 (rw is at up) in
          rw is (elim (cases_order (key t b f l) (key t' b' f' l')) [
            | inl one ↦ inl (same t' b' f' l' (omega arith) (omega arith) (omega arith) (omega arith))
            | inr (inl low) ↦ inr (key_before _ _ _ _ _ _ _ _ (omega arith) (omega arith) (omega arith))
            | inr (inr high) ↦ absurd (x.clean t' b' f' l' (all t' b' f' l' d') from high)
          ])
