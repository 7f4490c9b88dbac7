-- What the arrays tell of the pairs of operations, and how the lowest is found.
-- Assumes nothing.
use Prim.Native.Nat.{ℕ, ◌+◌, ◌*◌, ◌≤◌, ◌<◌}
use mathlib.Core.Path.{◌≡◌, refl, sym, ap, ap₂, ◌∙◌}
use mathlib.Core.Logic.{inl, inr, ◌↔◌}
use mathlib.Core.Bool.{Bool, true, false, ◌&&◌, ◌||◌}
use mathlib.Core.List.{List}
use native.Mathlib.Nat.{eq-or-lt_of_le}
use native.Mathlib.Decide.{ℕ_discrete, dec_lt}
use native.Mathlib.Omega.{arith}
use lib.Dec.{T, eqb, leb, leb→le, le→leb}
use lib.ListN.{get_or}
use borrow.Author.Tests.{eq-eqb, ne_eqb}
use Rattle.std.specs.Prelude.{Option, Some, None, MatchOption}
use Rattle.theory.specs.Find.{some?, meet?}
use Rattle.theory.proofs.FindLaws.{and_left, and_right, and_both, or_left, or_right, or_cases}
use Rattle.theory.specs.Danger.{Jobs, clash, job, alone}
use Rattle.theory.specs.Form1.{form1}
use Rattle.theory.specs.Shown.{PairAt}
use Rattle.conflicts.specs.Laid.{op_at, Laid}
use Rattle.conflicts.specs.Pairs.{fits?, Fits, Partner}
use Rattle.conflicts.specs.PairsLaws.{fits_known}
use Rattle.conflicts.proofs.RelationLaws.{and_none, some_none, alone_at}

and_all : (b : Bool) → b && true ≡ b
and_all true = refl
and_all false = refl

or_again : (a b : Bool) → a || b && a ≡ a
or_again true b = refl
or_again false b = and_none b

-- whether two operations fit, by their kinds and objects
module _ (any : Bool) (k l x y : ℕ) where
  pub fits_apart : (x ≡ y → ⊥) → false ≡ fits? form1 any (k, x) (l, y)
  unfolding fits?
  fits_apart n = simp (ne_eqb x y n, ne_eqb y x (λ e. n (sym e)), and_none)

  pub fits_read : x ≡ y → k ≡ 1 → l ≡ 2 → true ≡ fits? form1 any (k, x) (l, y)
  unfolding fits?
  fits_read e f g = simp (f, g, eq-eqb x y e)

  pub fits_write : x ≡ y → k ≡ 2 → 1 ≤ l → l ≤ 2 → any ≡ fits? form1 any (k, x) (l, y)
  unfolding fits?
  fits_write e f low high = elim (eq-or-lt_of_le {n = l} {m = 2} high) [
    | inl h ↦ simp (f, h, eq-eqb x y e, eq-eqb y x (sym e), and_all)
    | inr h ↦ (let one : l ≡ 1 = omega arith in simp (f, one, eq-eqb x y e, eq-eqb y x (sym e), and_all))
  ]

  pub fits_none : (k ≡ 1 → l ≡ 2 → ⊥) → (k ≡ 2 → 1 ≤ l → l ≤ 2 → ⊥) → false ≡ fits? form1 any (k, x) (l, y)
  unfolding fits?
  fits_none n m = cases (ℕ_discrete k 1) (ℕ_discrete k 2)
    where
      cases : Dec (k ≡ 1) → Dec (k ≡ 2) → false ≡ fits? form1 any (k, x) (l, y)
      cases (yes e) d = simp (e, ne_eqb l 2 (n e), and_none)
      cases (no e) (yes d) = simp (d, ne_eqb l 1 (λ u. m d (omega (arith, u)) (omega (arith, u))), ne_eqb l 2 (λ u. m d (omega (arith, u)) (omega (arith, u))), and_none)
      cases (no e) (no d) = simp (ne_eqb k 1 e, ne_eqb k 2 d, and_none)

module _ (kind object : List ℕ) (js : Jobs form1) (laid : Laid kind object js) (i j : ℕ) where
  -- two operations by their entries, for a relation that fails where there is none
  pair_at : (p : ℕ × ℕ → ℕ × ℕ → Bool) → ((y : ℕ × ℕ) → p (0, 0) y ≡ false) → ((x : ℕ × ℕ) → p x (0, 0) ≡ false) → (b a : ℕ) → b < 16 → a < 16
      → meet? p (alone form1 b (job form1 js i)) (alone form1 a (job form1 js j)) ≡ p (op_at kind object (16 * i + b)) (op_at kind object (16 * j + a))
  pair_at p f g b a h k =
      let ys = alone form1 a (job form1 js j) in
      alone_at (λ x. some? (p x) ys) (0, 0) (some_none (p (0, 0)) f ys) b (job form1 js i)
      ∙ alone_at (p (get_or (job form1 js i) b (0, 0))) (0, 0) (g _) a (job form1 js j)
      ∙ ap₂ p (laid.entry i b h) (laid.entry j a k)

  module _ (any b a : ℕ) (h : b < 16) (k : a < 16) where
    rw_at : PairAt form1 js form1.rw i j b a ≡ T (form1.rw (op_at kind object (16 * i + b)) (op_at kind object (16 * j + a)))
    rw_at = ap T (pair_at form1.rw (λ y. refl) (λ x. and_none (eqb x.0 1)) b a h k)

    clash_at : PairAt form1 js (clash form1) i j b a ≡ T (clash form1 (op_at kind object (16 * i + b)) (op_at kind object (16 * j + a)))
    clash_at = ap T (pair_at (clash form1) (λ y. simp and_none) (λ x. simp and_none) b a h k)

    pub fits_at : T (fits? form1 (leb any a) (op_at kind object (16 * i + b)) (op_at kind object (16 * j + a))) ↔ Fits form1 js any i j b a
    unfolding fits?
    fits_at = (there, back)
      where
        x : ℕ × ℕ
        x = op_at kind object (16 * i + b)

        y : ℕ × ℕ
        y = op_at kind object (16 * j + a)

        there : T (form1.rw x y || leb any a && clash form1 x y) → Fits form1 js any i j b a
        there t = elim (or_cases (form1.rw x y) (leb any a && clash form1 x y) t) [
          | inl s ↦ inl (rw rw_at s)
          | inr s ↦ inr (leb→le any a (and_left (leb any a) (clash form1 x y) s), rw clash_at (and_right (leb any a) (clash form1 x y) s))
        ]

        back : Fits form1 js any i j b a → T (form1.rw x y || leb any a && clash form1 x y)
        back f = elim f [
          | inl s ↦ or_left (form1.rw x y) (leb any a && clash form1 x y) (rw rw_at at s)
          | inr s ↦ or_right (form1.rw x y) (leb any a && clash form1 x y) (and_both (leb any a) (clash form1 x y) (le→leb any a s.0) (rw clash_at at s.1))
        ]

-- the first number below 16 that passes, or none where none does
abbrev pub First : (ℕ → Bool) → Option ℕ → Type 0
First p found = MatchOption found ((k : ℕ) → 0 ≤ k → k < 16 → p k ≡ false) (λ a. (0 ≤ a) × (a < 16) × (p a ≡ true) × ((k : ℕ) → 0 ≤ k → k < a → p k ≡ false))

module _ (kind object : List ℕ) (i b j any : ℕ) where
  -- whether operation a of job j will do for operation b of job i, by their entries
  abbrev pub does? : ℕ → Bool
  does? a = fits? form1 (leb any a) (op_at kind object (16 * i + b)) (op_at kind object (16 * j + a))

  module _ (h : b < 16) (js : Jobs form1) (laid : Laid kind object js) where
    partner_found : (a : ℕ) → a < 16 → does? a ≡ true → ((k : ℕ) → k < a → does? k ≡ false) → Partner (Fits form1 js any i j b) (Some a)
    partner_found a l e f = (l, (fits_at kind object js laid i j any b a h l).0 (rw e tt), first)
      where
        first : (k : ℕ) → Fits form1 js any i j b k → a ≤ k
        first k p = cases (dec_lt k a)
          where
            cases : Dec (k < a) → a ≤ k
            cases (yes q) = absurd (rw (f k q) at ((fits_at kind object js laid i j any b k h (omega arith)).1 p))
            cases (no q) = omega arith

    partner_none : ((k : ℕ) → k < 16 → does? k ≡ false) → Partner (Fits form1 js any i j b) None
    partner_none f k p =
        let l = (fits_known form1 js laid.short any i j b k p).1 in
        rw (f k l) at ((fits_at kind object js laid i j any b k h l).1 p)

    -- the first number that passes the test of the entries is the lowest that will do
    pub first_partner : (found : Option ℕ) → First does? found → Partner (Fits form1 js any i j b) found
    first_partner (Some a) f = partner_found a f.1 f.2 (λ k h. f.3 k (omega arith) h)
    first_partner None f = partner_none (λ k h. f k (omega arith) h)
