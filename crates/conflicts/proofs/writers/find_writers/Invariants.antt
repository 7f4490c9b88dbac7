use Prim.Native.Nat.{◌*◌, ◌-◌}
use Rattle.conflicts.proofs.WritersLaws.{WrittenTo}
use Rattle.conflicts.proofs.writers.find_writers.Given as goal

abbrev pub invariant-loop-from : goal.invariant-loop-from
invariant-loop-from l = WrittenTo l.table.kind l.table.object (16 * l.table.jobs) l.from l.writers

abbrev pub decreases-loop-from : goal.decreases-loop-from
decreases-loop-from l = l.from-end - l.from
