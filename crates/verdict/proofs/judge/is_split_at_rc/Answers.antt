use Rattle.std.proofs.Common.{rules, tests}
use Rattle.std.proofs.lemmas.Iterator.{cases_from_any, YieldsList-from_slice, YieldsList-from_zip}
use Rattle.splits.specs.Splits.{Meets}
use Rattle.verdict.proofs.SplitLaws.{tells_any}
use Rattle.verdict.proofs.judge.is_split_at_rc.Goals as goal

pub returns : goal.returns
returns c = λ js s lv e.
    let ends = c.find_splits-ends.result in
    let shut = c.paths_of-paths.result.shut in
    let clash = c.args.sets.now.clash in
    tells_any js s _ shut (c.paths_of-paths.ensures.shut js _ _ _ _ _ s) ends.first ends.last c.find_splits-ends.ensures lv e _
    (cases_from_any c.any.new.self _ _ (λ p. Meets clash shut p.0 p.1) (λ p. ¬ Meets clash shut p.0 p.1) c.any.ensures.ran
    (YieldsList-from_zip (YieldsList-from_slice ends.first cc) (YieldsList-from_slice ends.last cc))
    (λ p f called. search (rules, tests))
    (λ p f called. search (rules, tests)))
