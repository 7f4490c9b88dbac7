use native.Mathlib.Omega.{arith}
use borrow.Author.Count.{below_more}
use lib.Seq.{length-take-le}
use Rattle.theory.specs.Form1.{form1}
use Rattle.verdict.specs.Verdict.{SplitBy}
use Rattle.verdict.proofs.SplitLaws.{tells_yes, tells_no}
use Rattle.verdict.proofs.RobustLaws.{under_list, none_split, one_split}
use Rattle.verdict.proofs.judge.is_robust.Goals as goal

pub returns-then-is_split : goal.returns-then-is_split
returns-then-is_split c = λ js s e.
    let tells = under_list (λ lv. SplitBy form1 js lv c.loop-t1.t1 c.is_split.result) _ _ c.requires.1 _ _ _ c.loop-t1-test.true c.at_ssi-ssi.ensures c.watched.ensures (c.is_split.ensures js s) in
    tells_no (one_split form1 js c.args.levels.now _ _ e (tells.yes c.if-is_split.true))

pub loop-t1-preserved : goal.loop-t1-preserved
loop-t1-preserved c = below_more _ _ c.loop-t1.invariant (λ js s.
    let tells = under_list (λ lv. SplitBy form1 js lv c.loop-t1.t1 c.is_split.result) _ _ c.requires.1 _ _ _ c.loop-t1-test.true c.at_ssi-ssi.ensures c.watched.ensures (c.is_split.ensures js s) in
    tells.no c.if-is_split.false)

pub returns : goal.returns
returns c = λ js s e. tells_yes (none_split form1 js c.args.levels.now _ e (λ k h. c.loop-t1.invariant k (omega (arith, c.loop-t1-test.false, length-take-le _ c.args.levels.now c.requires.1)) js s))
