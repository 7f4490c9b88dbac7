-- The digits of a number are those of its tenth and its last one.
-- Assumes nothing.
use Prim.Native.Nat.{ℕ, zero, suc, ◌+◌, ◌/◌, ◌%◌, ◌^◌, ◌≤◌, ◌<◌}
use mathlib.Core.Path.{◌≡◌, sym, ap, ◌∙◌}
use mathlib.Core.List.{List, [], ◌∷◌, ◌++◌}
use native.Mathlib.Nat.{div-lt_iff_lt-mul, pow-suc}
use native.Mathlib.Decide.{dec_lt}
use native.Mathlib.Omega.{arith}
use lib.Dec.{lit<}
use borrow.Author.Tests.{lt-ltb, le-ltb}
use Rattle.text.specs.Text.{digits, decimal}

-- a number below 10 has one digit
digits_one : (k n : ℕ) → n < 10 → digits (suc k) n ≡ (48 + n) ∷ []
unfolding digits
digits_one k n h = rw (lt-ltb n 10 h)

digits_more : (k n : ℕ) → 10 ≤ n → digits (suc k) n ≡ digits k (n / 10) ++ ((48 + n % 10) ∷ [])
unfolding digits
digits_more k n h = rw (le-ltb n 10 h)

-- room for one digit more changes nothing
digits_room : (k n : ℕ) → n < 10 ^ suc k → digits (suc k) n ≡ digits (suc (suc k)) n
digits_room zero n h = digits_one 0 n h ∙ sym (digits_one 1 n h)
digits_room (suc k) n h = cases (digits_room k (n / 10) tenth) (dec_lt n 10)
  where
    tenth : n / 10 < 10 ^ suc k
    tenth = (div-lt_iff_lt-mul {k = 10} (lit< tt)).1 (rw pow-suc at h)

    cases : digits (suc k) (n / 10) ≡ digits (suc (suc k)) (n / 10) → Dec (n < 10) → digits (suc (suc k)) n ≡ digits (suc (suc (suc k))) n
    cases e (yes l) = digits_one (suc k) n l ∙ sym (digits_one (suc (suc k)) n l)
    cases e (no l) =
        let m : 10 ≤ n = omega arith in
        digits_more (suc k) n m ∙ ap (λ (d : List ℕ). d ++ ((48 + n % 10) ∷ [])) e ∙ sym (digits_more (suc (suc k)) n m)

pub decimal_one : (n : ℕ) → n < 10 → decimal n ≡ (48 + n) ∷ []
unfolding decimal
decimal_one n h = digits_one 19 n h

pub decimal_more : (n : ℕ) → 10 ≤ n → n < 2 ^ 64 → decimal n ≡ decimal (n / 10) ++ ((48 + n % 10) ∷ [])
unfolding decimal
decimal_more n h l =
    digits_more 19 n h
    ∙ ap (λ (d : List ℕ). d ++ ((48 + n % 10) ∷ [])) (digits_room 18 (n / 10) (omega arith))
