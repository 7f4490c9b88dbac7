-- A row of numbers, put one after another.
-- Assumes nothing.
use Prim.Native.Nat.{ℕ, zero, suc, ◌+◌, ◌≤◌, ◌<◌}
use mathlib.Core.Path.{◌≡◌, refl, sym, ap, ◌∙◌}
use mathlib.Core.List.{List, [], ◌∷◌, ◌++◌, append_assoc, append-nil}
use native.Mathlib.Numerals.{add-one}
use native.Mathlib.Omega.{arith}
use borrow.Author.Tests.{eq-eqb, ne_eqb}
use lib.ListN.{length, drop, get_or, get_or-eq_default}
use lib.Seq.{drop-cons}
use Rattle.text.specs.Text.{Puts, decimal}
use Rattle.text.specs.declared.Text.{Text}
use Rattle.text.specs.Lines.{word, row}
use Rattle.text.proofs.PutLaws.{put_length, puts_append}

-- nothing follows from a zero on, or behind the last number, ..
row_none : (ns : List ℕ) (i : ℕ) → get_or ns i 0 ≡ 0 → row (drop i ns) ≡ []
unfolding row
row_none [] zero e = refl
row_none [] (suc i) e = refl
row_none (n ∷ ns) zero e = rw (eq-eqb _ _ e)
row_none (n ∷ ns) (suc i) e = row_none ns i e

-- .. and from any other number on it comes first
row_more : (ns : List ℕ) (i : ℕ) → i < length ns → (get_or ns i 0 ≡ 0 → ⊥) → row (drop i ns) ≡ (word " " ++ decimal (get_or ns i 0)) ++ row (drop (i + 1) ns)
unfolding row
row_more ns i h d = rw (add-one, drop-cons ns i 0 h, ne_eqb _ _ d)

-- a row of which the numbers before i are put
pub record Begun (ns : List ℕ) (i : ℕ) (t u : Text) : Type 0 where
  pub done : List ℕ
  pub whole : row ns ≡ done ++ row (drop i ns)
  pub puts : Puts t done u

pub row_begun : (ns : List ℕ) (t : Text) → Begun ns 0 t t
row_begun ns t = record {
  done = [];
  whole = refl;
  puts = record { put = record { stored = refl; counted = omega arith }; same_buffer = refl };
}

module _ {ns : List ℕ} {i : ℕ} {t u : Text} (b : Begun ns i t u) where
  pub begun_length : length u.bytes.now ≡ length t.bytes.now
  begun_length = put_length b.done b.puts.put

  pub row_put : get_or ns i 0 ≡ 0 → Puts t (row ns) u
  row_put e = rw (b.whole, row_none ns i e, append-nil) b.puts

  pub row_all : length ns ≤ i → Puts t (row ns) u
  row_all h = row_put (get_or-eq_default ns 0 h)

  pub row_on :
      {v w : Text} → i < length ns → (get_or ns i 0 ≡ 0 → ⊥) → Puts u (word " ") v → Puts v (decimal (get_or ns i 0)) w → Begun ns (i + 1) t w
  row_on h d p q = record {
    done = b.done ++ (word " " ++ decimal (get_or ns i 0));
    whole = b.whole ∙ ap (λ (l : List ℕ). b.done ++ l) (row_more ns i h d) ∙ sym (append_assoc b.done (word " " ++ decimal (get_or ns i 0)) (row (drop (i + 1) ns)));
    puts = puts_append b.done _ b.puts (puts_append (word " ") _ p q);
  }
