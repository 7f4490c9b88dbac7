-- What a clause reads of a reader that reads ahead.
use Rattle.std.specs.Prelude.{ℕ, List, slice_range, Option}
use Rattle.std.specs.Io.KnownBytes.{prepend_known}
use Rattle.replies.specs.declared.input.Ahead.{Ahead}

-- what was read and not yet given
abbrev pub ahead : {R : Type 0} → Ahead R → List ℕ
ahead a = slice_range a.bytes a.at a.end

-- that, and then what its reader has left, where this is known
abbrev pub left : {R : Type 0} → (R → Option (List ℕ)) → Ahead R → Option (List ℕ)
left remaining a = prepend_known (ahead a) (remaining a.input)
