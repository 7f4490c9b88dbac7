-- The lines that the programs print alike, without their line feeds (document 01, "The program `survey`").
use Rattle.std.specs.Prelude.{ℕ, ◌≡◌, refl, cond, List, [], ◌∷◌, ◌++◌, eqb}
use Prim.Native.Char.{code}
use Prim.Native.String.{String, [] as []ˢ, ◌∷◌ as ◌∷ˢ◌}
use Rattle.text.specs.Text.{digits, decimal}

-- the bytes of a word
abbrev pub word : String → List ℕ
word []ˢ = []
word (c ∷ˢ s) = code c ∷ word s

-- a space and a number for each, up to the first zero
unfoldable pub row : List ℕ → List ℕ
row [] = []
row (n ∷ ns) = cond (eqb n 0) [] (word " " ++ decimal n ++ row ns)

abbrev pub refusal_line : ℕ → ℕ → List ℕ
refusal_line number place = word "refused " ++ decimal number ++ word " at " ++ decimal place

-- the four numbers, and the jobs of the chain, behind which there are zeros
abbrev pub danger_line : List ℕ → List ℕ → List ℕ
danger_line four chain = word "danger" ++ row four ++ word " :" ++ row chain

-- both as the document prints them
refusal_shown : refusal_line 5 4 ≡ word "refused 5 at 4"
unfolding digits decimal
refusal_shown = refl

danger_shown : danger_line (1 ∷ 1 ∷ 2 ∷ 2 ∷ []) (2 ∷ 0 ∷ []) ≡ word "danger 1 1 2 2 : 2"
unfolding digits decimal row
danger_shown = refl
