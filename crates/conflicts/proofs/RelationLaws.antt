-- Laws of the tests over lists by which conflicts are said.
-- Assumes nothing.
use Prim.Native.Nat.{ℕ, zero, suc, ◌≤◌}
use mathlib.Core.Path.{◌≡◌, refl, sym, ap, ◌∙◌}
use mathlib.Core.Bool.{Bool, true, false, ◌&&◌, ◌||◌}
use mathlib.Core.List.{List, [], ◌∷◌}
use native.Mathlib.Omega.{arith}
use lib.Dec.{T, eqb, eqb→eq, eqb_refl}
use lib.ListN.{length, get_or, take, drop}
use Rattle.theory.specs.Find.{some?, meet?}
use Rattle.theory.proofs.FindLaws.{some_alone, some_take, some_drop}
use Rattle.theory.proofs.KnownLaws.{op_known}
use Rattle.conflicts.specs.Found.{among}
use Rattle.conflicts.proofs.Among.{same_test, among_in, among_out}

pub eqb_turn : (a b : ℕ) → eqb a b ≡ eqb b a
eqb_turn a b = same_test _ _ (λ t. rw (eqb→eq a b t) (eqb_refl b)) (λ t. rw (eqb→eq b a t) (eqb_refl a))

pub and_none : (b : Bool) → b && false ≡ false
and_none true = refl
and_none false = refl

pub and_or : (c a b : Bool) → c && a || c && b ≡ c && (a || b)
and_or true a b = refl
and_or false a b = refl

or_swap : (a b c d : Bool) → (a || b) || (c || d) ≡ (a || c) || (b || d)
or_swap true b c d = refl
or_swap false true true d = refl
or_swap false true false d = refl
or_swap false false c d = refl

module _ {A : Type 0} where
  pub some_none : (p : A → Bool) → ((x : A) → p x ≡ false) → (xs : List A) → some? p xs ≡ false
  some_none p f [] = refl
  some_none p f (x ∷ xs) = rw (f x) (some_none p f xs)

  some_same : (p q : A → Bool) → ((x : A) → p x ≡ q x) → (xs : List A) → some? p xs ≡ some? q xs
  some_same p q f [] = refl
  some_same p q f (x ∷ xs) = rw (f x) (ap (λ (b : Bool). q x || b) (some_same p q f xs))

  some_or : (p q : A → Bool) (xs : List A) → some? p xs || some? q xs ≡ some? (λ x. p x || q x) xs
  some_or p q [] = refl
  some_or p q (x ∷ xs) = or_swap (p x) (some? p xs) (q x) (some? q xs) ∙ ap (λ (b : Bool). (p x || q x) || b) (some_or p q xs)

  pub meet_or : (p q : A → A → Bool) (xs ys : List A) → meet? p xs ys || meet? q xs ys ≡ meet? (λ x y. p x y || q x y) xs ys
  meet_or p q xs ys =
      some_or (λ x. some? (p x) ys) (λ x. some? (q x) ys) xs
      ∙ some_same (λ x. some? (p x) ys || some? (q x) ys) (λ x. some? (λ y. p x y || q x y) ys) (λ x. some_or (p x) (q x) ys) xs

  -- the element at a place by itself, where what stands for none fails
  pub alone_at : (q : A → Bool) (d : A) → q d ≡ false → (o : ℕ) (xs : List A) → some? q (take 1 (drop o xs)) ≡ q (get_or xs o d)
  alone_at q d e zero [] = sym e
  alone_at q d e (suc o) [] = sym e
  alone_at q d e zero (x ∷ xs) = or_none (q x)
    where
      or_none : (b : Bool) → b || false ≡ b
      or_none true = refl
      or_none false = refl
  alone_at q d e (suc o) (x ∷ xs) = alone_at q d e o xs

  -- some element passes where one of the places passes by itself
  pub among_alone : (q : A → Bool) (n : ℕ) (xs : List A) → length xs ≤ n → among n (λ o. some? q (take 1 (drop o xs))) ≡ some? q xs
  among_alone q n xs h = same_test _ _ there back
    where
      there : T (among n (λ o. some? q (take 1 (drop o xs)))) → T (some? q xs)
      there t = let m = among_out (λ o. some? q (take 1 (drop o xs))) n t in some_drop q m.0 xs (some_take q 1 (drop m.0 xs) m.2)

      back : T (some? q xs) → T (among n (λ o. some? q (take 1 (drop o xs))))
      back t =
          let m = some_alone q xs t in
          among_in (λ o. some? q (take 1 (drop o xs))) n m.0 (omega (arith, op_known q xs m.0 m.1)) m.1
