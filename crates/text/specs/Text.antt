-- What it means to put bytes to the end of what a buffer holds, and the digits of numbers.
use Rattle.std.specs.Prelude.{◌≡◌, cond, List, [], ◌∷◌, ◌++◌, ℕ, zero, suc, ◌+◌, ◌/◌, ◌%◌, min, max, ltb, length}
use Rattle.std.proofs.lemmas.List.Edits.{sets}
use Rattle.text.specs.declared.Text.{Text}

-- `bytes` stand behind the first `used` bytes of `out`, as many as there is room for, and are counted
pub record Put (bytes out : List ℕ) (used : ℕ) (out' : List ℕ) (used' : ℕ) : Type 0 where
  pub stored : out' ≡ sets out used bytes
  pub counted : used' ≡ max used (min (used + length bytes) (length out))

-- the bytes are put to the end of what a text holds, in the same buffer
pub record Puts (t : Text) (bytes : List ℕ) (u : Text) : Type 0 where
  pub put : Put bytes t.bytes.now t.used u.bytes.now u.used
  pub same_buffer : u.bytes.ghost_name ≡ t.bytes.ghost_name

-- a text still has the buffer that was lent to it, at its length
pub record SameBuffer (t u : Text) : Type 0 where
  pub same_buffer : u.bytes.ghost_name ≡ t.bytes.ghost_name
  pub same_length : length u.bytes.now ≡ length t.bytes.now

-- the decimal digits of a number that has at most k of them, without leading zeros
unfoldable pub digits : ℕ → ℕ → List ℕ
digits zero n = []
digits (suc k) n = cond (ltb n 10) ((48 + n) ∷ []) (digits k (n / 10) ++ ((48 + n % 10) ∷ []))

-- the digits of a number of 64 bits
unfoldable pub decimal : ℕ → List ℕ
decimal n = digits 20 n

-- the hexadecimal digit of a number below 16, in small letters
abbrev pub nibble : ℕ → ℕ
nibble d = cond (ltb d 10) (48 + d) (87 + d)

-- a byte as two hexadecimal digits
abbrev pub hexadecimal : ℕ → List ℕ
hexadecimal b = nibble (b / 16) ∷ nibble (b % 16) ∷ []
