use Prim.Native.Nat.{◌+◌, ◌*◌, ◌-◌, ◌≤◌}
use mathlib.Core.Path.{◌≡◌}
use Rattle.sheet.specs.Sheet.{operations_at}
use Rattle.sheet.specs.Marks.{Marked}
use Rattle.sheet.specs.Filling.{cells_in, SameRows}
use Rattle.sheet.proofs.operations.operations.Given as goal

abbrev pub invariant-loop-n : goal.invariant-loop-n
invariant-loop-n l =
    (l.n ≤ l.count)
    × (l.at ≡ l.from + 3 * l.n)
    × Marked l.table.kind l.table.object l.base l.n l.marks
    × (operations_at l.s l.initial.table.objects l.base (l.count - l.n) l.n (cells_in l.table l.at)
    ≡ operations_at l.s l.initial.table.objects l.base l.count 0 (cells_in l.initial.table l.from))
    × SameRows l.initial.table l.table
