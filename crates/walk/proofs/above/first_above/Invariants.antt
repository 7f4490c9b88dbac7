-- The walk passes no danger: each loop's invariant says so from that loop's own start on, and the loops are joined one after the other.
use Rattle.walk.specs.Starts.{key, key_at}
use Rattle.walk.proofs.Keys.{Passed}
use Rattle.walk.proofs.Steps.{DangerAt, Ready}
use Rattle.walk.proofs.above.first_above.Given as goal

abbrev pub invariant-loop-tm : goal.invariant-loop-tm
invariant-loop-tm l =
    Passed (DangerAt l.sets l.levels) (key l.t1 l.b1 l.t2 l.initial.tm) l.t1 l.b1 l.t2 l.tm

abbrev pub invariant-loop-t2 : goal.invariant-loop-t2
invariant-loop-t2 l =
    Passed (DangerAt l.sets l.levels) (key l.t1 l.b1 l.initial.start.t2 l.initial.start.tm) l.t1 l.b1 l.t2 l.start.tm

abbrev pub invariant-loop-b1 : goal.invariant-loop-b1
invariant-loop-b1 l =
    Ready l.sets l.levels l.t1 l.ends.first l.ends.last l.paths.shut l.watch
    × Passed (DangerAt l.sets l.levels) (key l.t1 l.initial.start.b1 l.initial.start.t2 l.initial.start.tm) l.t1 l.b1 l.start.t2 l.start.tm

abbrev pub invariant-loop-t1 : goal.invariant-loop-t1
invariant-loop-t1 l =
    Passed (DangerAt l.sets l.levels) (key_at l.initial.start) l.t1 l.start.b1 l.start.t2 l.start.tm
