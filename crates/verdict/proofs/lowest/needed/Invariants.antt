use Rattle.theory.specs.Danger.{Jobs}
use Rattle.theory.specs.Form1.{form1}
use Rattle.conflicts.specs.SetsOf.{SetsOf}
use Rattle.verdict.proofs.HitLaws.{NeededUpto}
use Rattle.verdict.proofs.lowest.needed.Given as goal

abbrev pub invariant-loop-t1 : goal.invariant-loop-t1
invariant-loop-t1 l =
    (js : Jobs form1) → SetsOf js l.sets → NeededUpto form1 js l.t1 l.all
