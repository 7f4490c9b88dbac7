use native.Mathlib.Omega.{arith}
use Rattle.theory.specs.Form1.{form1}
use Rattle.verdict.proofs.HitLaws.{needed_start, needed_next, needed_all}
use Rattle.verdict.proofs.lowest.needed.Goals as goal

pub loop-t1-init : goal.loop-t1-init
loop-t1-init c = λ js s. needed_start form1 js

pub loop-t1-preserved : goal.loop-t1-preserved
loop-t1-preserved c = λ js s. needed_next form1 js _ _ _ _ (c.loop-t1.invariant js s) (c.needed_by.ensures js s) c.union-all.ensures

pub returns : goal.returns
returns c = λ js s e. needed_all form1 js _ _ (omega (arith, c.loop-t1-test.false)) (c.loop-t1.invariant js s)
