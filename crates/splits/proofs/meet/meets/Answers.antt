use borrow.Author.Rules.{rules}
use Rattle.splits.proofs.MeetLaws.{no_ends, spread_meets}
use Rattle.splits.proofs.meet.meets.Goals as goal

pub returns-then-first-eq0 : goal.returns-then-first-eq0
returns-then-first-eq0 c = no_ends _ _ _ _ c.then-first-eq0.either

pub returns : goal.returns
returns c = spread_meets _ _ _ _ _ _ c.spread.ensures c.intersect.ensures (search rules)
