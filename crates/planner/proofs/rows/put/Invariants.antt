use mathlib.Core.Path.{◌≡◌}
use lib.Seq.{paste}
use Rattle.planner.proofs.rows.put.Given as goal

abbrev pub invariant-loop-i : goal.invariant-loop-i
invariant-loop-i l = l.buffer ≡ paste l.initial.buffer l.at l.row l.i
