-- An array of which only the first n entries were written: they stand before what is left of the old one.
-- Assumes nothing.
use Prim.Native.Nat.{ℕ, ◌-◌, ◌≤◌, ◌<◌}
use mathlib.Core.Path.{◌≡◌, ap, ◌∙◌}
use mathlib.Core.List.{List, ◌++◌}
use native.Mathlib.Omega.{arith}
use lib.ListN.{length, get_or, drop, length-append, length-drop, get_or-append}
use lib.Seq.{get_or-append_right}
use Rattle.std.proofs.lemmas.List.{get_or-drop}

module _ (n : ℕ) (front old : List ℕ) (e : length front ≡ n) where
  pub length_kept : n ≤ length old → length (front ++ drop n old) ≡ length old
  length_kept h = omega (arith, length-append front (drop n old), length-drop n old, e)

  pub in_front : (i : ℕ) → i < n → get_or (front ++ drop n old) i 0 ≡ get_or front i 0
  in_front i h = get_or-append front (drop n old) 0 i (omega (arith, e))

  pub behind_front : (i : ℕ) → n ≤ i → get_or (front ++ drop n old) i 0 ≡ get_or old i 0
  behind_front i h =
      get_or-append_right front (drop n old) i 0 (omega (arith, e))
      ∙ get_or-drop n old (i - length front) 0
      ∙ ap (λ (x : ℕ). get_or old x 0) (omega (arith, e))
