-- The checks of a record, one law for each outcome.
-- Assumes nothing.
use Prim.Native.Nat.{ℕ, ◌+◌, ◌-◌, ◌≤◌, ◌<◌}
use mathlib.Core.Path.{◌≡◌, sym}
use mathlib.Core.Bool.{true, false}
use mathlib.Core.List.{List, [], ◌∷◌}
use native.Mathlib.Omega.{arith}
use borrow.Author.Tests.{le-ltb, lt-ltb, eq-eqb, ne_eqb}
use lib.ListN.{length, get_or, take, drop}
use Rattle.std.proofs.Common.{w16}
use Rattle.std.proofs.lemmas.List.{take_rest, get_or-drop, length-drop}
use Rattle.std.specs.Int.{from_be_bytes}
use Rattle.sheet.specs.Step.{ok, fault, refuse}
use Rattle.sheet.specs.Sheet.{byte_at, word_at, outside_of, record_at}

-- what is left of a slice from a place on, as a pattern takes it apart
abbrev pub rest : List ℕ → ℕ → List ℕ
rest s at = take (length s - at) (drop at s)

rest_length : (s : List ℕ) (at : ℕ) → length (rest s at) ≡ length s - at
rest_length s at = rw (take_rest s at) (length-drop at s)

rest_at : (s : List ℕ) (at i : ℕ) → get_or (rest s at) i 0 ≡ byte_at s (at + i)
rest_at s at i = rw (take_rest s at) (get_or-drop at s i 0)

word_is : (s : List ℕ) (at n : ℕ) → n ≡ from_be_bytes w16 (get_or (rest s at) 1 0 ∷ get_or (rest s at) 2 0 ∷ []) → n ≡ word_at s (at + 1)
word_is s at n e =
    let z : at + 1 + 1 ≡ at + 2 = omega arith in
    rw z (rw (rest_at s at 1, rest_at s at 2) at e)

-- a record, check by check
module _ (s : List ℕ) (at tag least most : ℕ) where
  pub record_short : length (rest s at) < 3 → record_at s at tag least most ≡ fault 1 at
  unfolding record_at refuse
  record_short h = simp (lt-ltb _ _ (rw (rest_length s at) at h))

  module _ (l : 3 ≤ length (rest s at)) where
    long : 3 ≤ length s - at
    long = rw (rest_length s at) at l

    first : get_or (rest s at) 0 0 ≡ byte_at s at
    first = let z : at + 0 ≡ at = omega arith in rw z at (rest_at s at 0)

    pub record_tag : (get_or (rest s at) 0 0 ≡ tag → ⊥) → record_at s at tag least most ≡ fault 2 at
    unfolding record_at refuse
    record_tag h = simp (le-ltb _ _ long, ne_eqb _ _ (rw first at h))

    module _ (t : get_or (rest s at) 0 0 ≡ tag) (n : ℕ) (e : n ≡ from_be_bytes w16 (get_or (rest s at) 1 0 ∷ get_or (rest s at) 2 0 ∷ [])) where
      pub record_length : outside_of least most n ≡ true → record_at s at tag least most ≡ fault 3 at
      unfolding record_at refuse
      record_length h = simp (le-ltb _ _ long, eq-eqb _ _ (rw first at t), sym (word_is s at n e), h)

      module _ (o : outside_of least most n ≡ false) where
        room : length (rest (rest s at) 3) ≡ length s - at - 3
        room = rw (rest_length (rest s at) 3, rest_length s at)

        pub record_behind : length (rest (rest s at) 3) < n → record_at s at tag least most ≡ fault 1 at
        unfolding record_at refuse
        record_behind h = simp (le-ltb _ _ long, eq-eqb _ _ (rw first at t), sym (word_is s at n e), o, lt-ltb _ _ (rw room at h))

        pub record_found : n ≤ length (rest (rest s at) 3) → record_at s at tag least most ≡ ok n
        unfolding record_at refuse
        record_found h = simp (le-ltb _ _ long, eq-eqb _ _ (rw first at t), sym (word_is s at n e), o, le-ltb _ _ (rw room at h))
