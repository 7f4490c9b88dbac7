-- Bytes that are put after one another are put as one.
-- Assumes nothing.
use Prim.Native.Nat.{ℕ, suc, ◌+◌, ◌≤◌, ◌<◌}
use mathlib.Core.Path.{◌≡◌, refl, sym, ap, ◌∙◌}
use mathlib.Core.List.{List, [], ◌∷◌, ◌++◌}
use native.Mathlib.Decide.{dec_le}
use native.Mathlib.Numerals.{add-one}
use native.Mathlib.Omega.{arith}
use lib.ListN.{length, take, set, get_or, length-append}
use lib.Seq.{sets, set_out, length-sets, take-suc}
use Rattle.text.specs.Text.{Put, Puts, SameBuffer}
use Rattle.text.specs.declared.Text.{Text}

-- what has no room changes nothing
sets_out : (l : List ℕ) (i : ℕ) (vs : List ℕ) → length l ≤ i → sets l i vs ≡ l
sets_out l i [] h = refl
sets_out l i (a ∷ vs) h = rw (set_out l i a h) (sets_out l (suc i) vs (omega arith))

sets_append : (l : List ℕ) (i : ℕ) (a b : List ℕ) → sets l i (a ++ b) ≡ sets (sets l i a) (i + length a) b
sets_append l i [] b = ap (λ (n : ℕ). sets l n b) (omega arith)
sets_append l i (x ∷ a) b = sets_append (set l i x) (suc i) a b ∙ ap (λ (n : ℕ). sets (sets (set l i x) (suc i) a) n b) (omega arith)

module _ {out : List ℕ} {used : ℕ} {out₁ : List ℕ} {used₁ : ℕ} where
  pub put_length : (a : List ℕ) → Put a out used out₁ used₁ → length out₁ ≡ length out
  put_length a p = ap length p.stored ∙ length-sets out used a

  module _ (a b : List ℕ) {out₂ : List ℕ} {used₂ : ℕ} where
    pub put_append : Put a out used out₁ used₁ → Put b out₁ used₁ out₂ used₂ → Put (a ++ b) out used out₂ used₂
    put_append p q = record {
      stored = q.stored ∙ rw p.stored (here (dec_le (used + length a) (length out))) ∙ sym (sets_append out used a b);
      counted = omega (arith, p.counted, q.counted, put_length a p, length-append a b);
    }
      where
        -- the second run starts behind the first, or there is no room for either
        here : Dec (used + length a ≤ length out) → sets (sets out used a) used₁ b ≡ sets (sets out used a) (used + length a) b
        here (yes h) = ap (λ (n : ℕ). sets (sets out used a) n b) (omega (arith, p.counted))
        here (no h) =
            sets_out _ used₁ b (omega (arith, length-sets out used a, p.counted))
            ∙ sym (sets_out _ (used + length a) b (omega (arith, length-sets out used a)))

-- the four runs of a line
pub put_line_lem :
    {out : List ℕ} {used : ℕ} {out₁ : List ℕ} {used₁ : ℕ} {out₂ : List ℕ} {used₂ : ℕ} {out₃ : List ℕ} {used₃ : ℕ} {out₄ : List ℕ} {used₄ : ℕ} (a b c d : List ℕ)
    → Put a out used out₁ used₁ → Put b out₁ used₁ out₂ used₂ → Put c out₂ used₂ out₃ used₃ → Put d out₃ used₃ out₄ used₄
    → Put (a ++ b ++ c ++ d) out used out₄ used₄
put_line_lem a b c d p q r s = put_append (a ++ b ++ c) d (put_append (a ++ b) c (put_append a b p q) r) s

-- a text keeps its buffer where bytes are put, ..
pub puts_same : {t u : Text} (bytes : List ℕ) → Puts t bytes u → SameBuffer t u
puts_same bytes p = record { same_buffer = p.same_buffer; same_length = put_length bytes p.put }

module _ {t u v : Text} where
  -- .. and where one thing is done after another
  pub same_trans : SameBuffer t u → SameBuffer u v → SameBuffer t v
  same_trans p q = record { same_buffer = q.same_buffer ∙ p.same_buffer; same_length = q.same_length ∙ p.same_length }

  pub puts_append : (a b : List ℕ) → Puts t a u → Puts u b v → Puts t (a ++ b) v
  puts_append a b p q = record { put = put_append a b p.put q.put; same_buffer = q.same_buffer ∙ p.same_buffer }

  -- one byte more of a word
  pub puts_more : (word : List ℕ) (i : ℕ) → i < length word → Puts t (take i word) u → Puts u (get_or word i 0 ∷ []) v → Puts t (take (i + 1) word) v
  puts_more word i h p q = rw (add-one, take-suc word i 0) (puts_append (take i word) (get_or word i 0 ∷ []) p q)

pub puts_line :
    {t u v w x : Text} (a b c d : List ℕ) → Puts t a u → Puts u b v → Puts v c w → Puts w d x → Puts t (a ++ b ++ c ++ d) x
puts_line a b c d p q r s = record {
  put = put_line_lem a b c d p.put q.put r.put s.put;
  same_buffer = s.same_buffer ∙ r.same_buffer ∙ q.same_buffer ∙ p.same_buffer;
}
