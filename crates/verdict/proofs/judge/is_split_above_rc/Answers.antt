use Rattle.theory.specs.Form1.{form1}
use Rattle.verdict.proofs.SplitLaws.{tells_free, tells_held}
use Rattle.verdict.proofs.judge.is_split_above_rc.Goals as goal

pub returns-then-meets : goal.returns-then-meets
returns-then-meets c = λ js s lv up hw.
    let shut = c.paths_of-paths.ensures.shut js _ _ _ _ _ s in
    tells_free form1 js s _ _ shut lv up c.requires _ _ _ _ _ _ hw c.without.ensures c.unnoticed-first.ensures c.without-2.ensures c.unnoticed-last.ensures c.without-3.ensures
    _ c.if-meets.true (rw c.paths_of-paths.ensures.same at c.meets.ensures)

pub returns-else-meets : goal.returns-else-meets
returns-else-meets c = λ js s lv up hw.
    let shut = c.paths_of-paths.ensures.shut js _ _ _ _ _ s in
    tells_held form1 js s _ _ shut lv up c.requires _ _ _ _ _ _ hw c.without.ensures c.unnoticed-first.ensures c.without-2.ensures c.unnoticed-last.ensures c.without-3.ensures
    _ _ _ c.intersect.ensures c.without-else-meets.ensures ((rw c.paths_of-paths.ensures.same at c.meets.ensures).apart c.if-meets.false)
    (rw c.paths_of-paths.ensures.same at c.meets-else-meets.ensures)
