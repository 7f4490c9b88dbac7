use Rattle.theory.specs.Form1.{form1}
use Rattle.verdict.specs.LowestSets.{at_ssi_lem, at_si, at_rc}
use Rattle.verdict.specs.Needed.{only}
use Rattle.verdict.specs.OnlyLaws.{only_at}
use Rattle.verdict.proofs.HitLaws.{is_in, is_out}
use Rattle.verdict.proofs.lowest.level_of.Goals as goal

pub returns-then-has : goal.returns-then-has
returns-then-has c = λ js s need. at_ssi_lem form1 js _ (need.yes _ (is_in _ _ _ c.has.ensures c.if-has.true))

pub returns-then-is_split_at_rc : goal.returns-then-is_split_at_rc
returns-then-is_split_at_rc c = λ js s need.
    let j = c.args.j in
    at_si form1 js _ (need.no _ (is_out _ _ _ c.has.ensures c.if-has.false))
    ((c.is_split_at_rc.ensures js s (only j 0) (only_at j 0)).yes c.if-is_split_at_rc.true)

pub returns-else-is_split_at_rc : goal.returns-else-is_split_at_rc
returns-else-is_split_at_rc c = λ js s need.
    let j = c.args.j in
    at_rc form1 js _ (need.no _ (is_out _ _ _ c.has.ensures c.if-has.false))
    ((c.is_split_at_rc.ensures js s (only j 0) (only_at j 0)).no c.if-is_split_at_rc.false)
