-- Laws of the test whether some number below n passes, and of tests as digits of a set.
-- Assumes nothing.
use Prim.Native.Nat.{ℕ, zero, suc, ◌+◌, ◌<◌, max}
use mathlib.Core.Path.{◌≡◌, refl, sym, ap, ap₂, ◌∙◌}
use mathlib.Core.Logic.{inl, inr}
use mathlib.Core.Bool.{Bool, true, false, ◌&&◌, ◌||◌}
use native.Mathlib.Numerals.{add-one}
use native.Mathlib.Nat.{eq-or-lt_of_le}
use native.Mathlib.Omega.{arith}
use lib.Dec.{T, eqb, ltb, eqb→eq, eqb_refl, ltb→lt, lt→ltb}
use Rattle.jobset.specs.Jobset.{bit, one}
use Rattle.jobset.specs.JobsetLaws.{one_or, bit_lt, bit_none}
use Rattle.theory.proofs.FindLaws.{and_left, and_right, and_both, or_left, or_right, or_cases}
use Rattle.conflicts.specs.Sets.{Has}
use Rattle.conflicts.specs.Found.{among, in?}

-- two tests that imply each other are equal
pub same_test : (a b : Bool) → (T a → T b) → (T b → T a) → a ≡ b
same_test true true f g = refl
same_test true false f g = absurd (f tt)
same_test false true f g = absurd (g tt)
same_test false false f g = refl

-- a digit is 1 just where the test of it passes
pub digit_in : (m k : ℕ) → bit m k ≡ one (in? m k)
unfolding one
digit_in m k = of (bit m k) (bit_lt m k)
  where
    of : (x : ℕ) → x < 2 → x ≡ one (eqb x 1)
    of zero h = refl
    of (suc zero) h = refl
    of (suc (suc x)) h = absurd (omega arith)

pub in_one : (m k : ℕ) (p : Bool) → bit m k ≡ one p → in? m k ≡ p
unfolding one
in_one m k p e = ap (λ (x : ℕ). eqb x 1) e ∙ of p
  where
    of : (q : Bool) → eqb (one q) 1 ≡ q
    of true = refl
    of false = refl

-- a test that fails adds nothing
pub max_none : (x : ℕ) (c : Bool) → c ≡ false → x ≡ max x (one c)
unfolding one
max_none x c e = rw e (omega arith)

module _ (p : ℕ → Bool) where
  among_more : (n : ℕ) → among (n + 1) p ≡ among n p || p n
  unfolding among
  among_more n = rw add-one

  pub among_in : (n i : ℕ) → i < n → T (p i) → T (among n p)
  unfolding among
  among_in zero i h t = absurd (omega arith)
  among_in (suc n) i h t = elim (eq-or-lt_of_le {n = i} {m = n} (omega arith)) [
    | inl e ↦ or_right (among n p) (p n) (rw e at t)
    | inr l ↦ or_left (among n p) (p n) (among_in n i l t)
  ]

  pub among_out : (n : ℕ) → T (among n p) → (i : ℕ) × (i < n) × T (p i)
  unfolding among
  among_out zero t = absurd t
  among_out (suc n) t = elim (or_cases (among n p) (p n) t) [
    | inl a ↦ (let q = among_out n a in (q.0, omega (arith, q.1), q.2))
    | inr b ↦ (n, omega arith, b)
  ]

pub among_same : (p q : ℕ → Bool) (n : ℕ) → ((i : ℕ) → i < n → p i ≡ q i) → among n p ≡ among n q
unfolding among
among_same p q zero f = refl
among_same p q (suc n) f = ap₂ (λ (a b : Bool). a || b) (among_same p q n (λ i h. f i (omega arith))) (f n (omega arith))

-- the test of one number alone
pub among_at : (n x : ℕ) (q : ℕ → Bool) → among n (λ i. eqb i x && q i) ≡ ltb x n && q x
among_at n x q = same_test _ _ there back
  where
    there : T (among n (λ i. eqb i x && q i)) → T (ltb x n && q x)
    there t =
        let m = among_out (λ i. eqb i x && q i) n t in
        let e : m.0 ≡ x = eqb→eq m.0 x (and_left (eqb m.0 x) (q m.0) m.2) in
        and_both (ltb x n) (q x) (lt→ltb x n (omega (arith, m.1))) (rw e at (and_right (eqb m.0 x) (q m.0) m.2))

    back : T (ltb x n && q x) → T (among n (λ i. eqb i x && q i))
    back t =
        among_in (λ i. eqb i x && q i) n x (ltb→lt x n (and_left (ltb x n) (q x) t))
        (and_both (eqb x x) (q x) (eqb_refl x) (and_right (ltb x n) (q x) t))

-- A set that grows by a union in each turn: after n turns it has the jobs of n sets.
module _ (p : ℕ → ℕ → Bool) where
  pub has_none : (m : ℕ) → m ≡ 0 → Has m (λ k. among 0 (p k))
  unfolding one among
  has_none m e k = ap (λ (x : ℕ). bit x k) e ∙ bit_none k

  pub has_more : (n m r : ℕ) → Has m (λ k. among n (p k)) → ((k : ℕ) → bit r k ≡ max (bit m k) (one (p k n))) → Has r (λ k. among (n + 1) (p k))
  has_more n m r h e k =
      e k ∙ ap (λ (x : ℕ). max x (one (p k n))) (h k) ∙ sym (one_or (among n (p k)) (p k n)) ∙ ap one (sym (among_more (p k) n))

  -- where nothing passes, nothing is added
  pub has_skip : (n m : ℕ) → Has m (λ k. among n (p k)) → ((k : ℕ) → p k n ≡ false) → Has m (λ k. among (n + 1) (p k))
  unfolding one
  has_skip n m h f = has_more n m m h (λ k. max_none (bit m k) (p k n) (f k))
