use Prim.Native.Nat.{◌-◌, ◌≤◌}
use mathlib.Core.Path.{◌≡◌}
use lib.ListN.{length}
use Rattle.sheet.specs.Sheet.{jobs_at}
use Rattle.sheet.specs.Filling.{rows_in, SameHead}
use Rattle.sheet.proofs.jobs.jobs.Given as goal

abbrev pub invariant-loop-j : goal.invariant-loop-j
invariant-loop-j l =
    (l.j ≤ l.j-end)
    × (l.at ≤ length l.s)
    × (jobs_at l.s l.initial.table.objects (l.j-end - l.j) l.j (rows_in l.table l.at)
    ≡ jobs_at l.s l.initial.table.objects l.j-end 0 (rows_in l.initial.table 7))
    × SameHead l.initial.table l.table
