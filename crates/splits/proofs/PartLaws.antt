-- Tests over a part of a job's operations, one operation after the other.
use mathlib.Core.Path.{◌≡◌, refl, sym, ap, ◌∙◌}
use mathlib.Core.Bool.{Bool, ◌||◌, or_assoc, or-false}
use mathlib.Core.List.{List, [], ◌∷◌}
use Prim.Native.Nat.{ℕ, zero, suc}
use lib.ListN.{take, drop}
use Rattle.theory.specs.Find.{some?}

module _ {A : Type 0} where
  -- the operations up to the next are those before it, and itself; those from it on are itself and those after it
  pub some_upto_next : (p : A → Bool) (n : ℕ) (xs : List A) → some? p (take (suc n) xs) ≡ some? p (take n xs) || some? p (take 1 (drop n xs))
  some_upto_next p zero xs = refl
  some_upto_next p (suc n) [] = refl
  some_upto_next p (suc n) (x ∷ xs) = ap (p x ||◌) (some_upto_next p n xs) ∙ sym (or_assoc (p x) (some? p (take n xs)) (some? p (take 1 (drop n xs))))

  pub some_from_lem : (p : A → Bool) (n : ℕ) (xs : List A) → some? p (drop n xs) ≡ some? p (take 1 (drop n xs)) || some? p (drop (suc n) xs)
  some_from_lem p zero [] = refl
  some_from_lem p zero (x ∷ xs) = ap (◌|| some? p xs) (sym (or-false (p x)))
  some_from_lem p (suc n) [] = refl
  some_from_lem p (suc n) (x ∷ xs) = some_from_lem p n xs
