-- What `found` holds once the four numbers and the rows behind them were stored.
-- Assumes nothing.
use Prim.Native.Nat.{ℕ, ◌+◌}
use mathlib.Core.Path.{◌≡◌, refl, ap, ap₂, ◌∙◌}
use mathlib.Core.List.{List, [], ◌∷◌, ◌++◌, append-nil}
use native.Mathlib.Omega.{arith}
use lib.ListN.{length, take, drop, length-append, length-drop, drop_of_length-le}
use lib.Seq.{take_at, drop-append-add}

-- a row that is put behind the front takes the places of as much of what was there
row_put :
    (front rest row l m : List ℕ) (at : ℕ) → length front ≡ at → l ≡ front ++ rest
    → m ≡ take at l ++ row ++ drop (at + length row) l → m ≡ (front ++ row) ++ drop (length row) rest
row_put front rest row l m at e el em =
    em ∙ ap₂ ◌++◌ (ap (λ (x : List ℕ). x ++ row) (ap (take at) el ∙ take_at front rest at e)) (ap (drop (at + length row)) el ∙ rw (← e) (drop-append-add front rest (length row)))

-- the four numbers, the chain, the pairs and what is kept fill the array
pub found_is :
    (a b c d : ℕ) (numbers chain pairs kept l k m n o : List ℕ)
    → numbers ≡ a ∷ b ∷ c ∷ d ∷ [] → length chain ≡ 32 → length pairs ≡ 64 → length kept ≡ 28 → length l ≡ 128
    → k ≡ take 0 l ++ numbers ++ drop (0 + length numbers) l
    → m ≡ take 4 k ++ chain ++ drop (4 + length chain) k
    → n ≡ take 36 m ++ pairs ++ drop (36 + length pairs) m
    → o ≡ take 100 n ++ kept ++ drop (100 + length kept) n
    → o ≡ a ∷ b ∷ c ∷ d ∷ (chain ++ pairs ++ kept)
found_is a b c d numbers chain pairs kept l k m n o is lc lp lk ll ek em en eo = last ∙ ap (λ (x : List ℕ). (((four ++ chain) ++ pairs) ++ kept) ++ x) none ∙ append-nil _
  where
    four : List ℕ
    four = a ∷ b ∷ c ∷ d ∷ []

    zeroth : k ≡ four ++ drop 4 l
    zeroth = row_put [] l four l k 0 refl refl (rw is at ek)

    first : m ≡ (four ++ chain) ++ drop (length chain) (drop 4 l)
    first = row_put four (drop 4 l) chain k m 4 refl zeroth em

    second : n ≡ ((four ++ chain) ++ pairs) ++ drop (length pairs) (drop (length chain) (drop 4 l))
    second = row_put (four ++ chain) _ pairs m n 36 (omega arith) first en

    last : o ≡ (((four ++ chain) ++ pairs) ++ kept) ++ drop (length kept) (drop (length pairs) (drop (length chain) (drop 4 l)))
    last = row_put ((four ++ chain) ++ pairs) _ kept n o 100 (simp length-append (omega arith)) second eo

    none : drop (length kept) (drop (length pairs) (drop (length chain) (drop 4 l))) ≡ []
    none = drop_of_length-le _ {i = length kept} (simp length-drop (omega (arith, ll)))
