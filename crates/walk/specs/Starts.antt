-- Where the search for the first danger above four given numbers starts.
use Rattle.std.specs.Prelude.{◌↔◌, ℕ, ◌+◌, ◌*◌, ◌<◌, ◌≤◌}
use Rattle.theory.specs.Walk.{row, from_one_lem}
use Rattle.theory.specs.Shown.{Before}
use Rattle.walk.specs.Answers.{named}
use Rattle.walk.specs.declared.four.Four.{Four}
use Rattle.walk.specs.declared.four.Indices.{Indices}

-- Four numbers below 256 as one, whose order is theirs.
abbrev pub key : ℕ → ℕ → ℕ → ℕ → ℕ
key t b f l = 16777216 * t + 65536 * b + 256 * f + l

abbrev pub key_at : Indices → ℕ
key_at s = key s.t1 s.b1 s.t2 s.tm

-- The search starts at s: numbers counted from 0 are above those given, counted from 1, exactly if they are not before s.
pub record Starts (g : Four) (s : Indices) : Type 0 where
  pub small : (s.t1 < 256) × (s.b1 < 256) × (s.t2 < 256) × (s.tm < 256)
  pub above : (t b f l : ℕ) → b < 255 → f < 255 → l < 255 → Before (row (named g)) (row (from_one_lem t b f l)) ↔ (key_at s ≤ key t b f l)
