use Rattle.splits.proofs.GuardLaws.{watched_all, watched_none}
use Rattle.splits.proofs.guard.watched.Goals as goal

pub returns-then-level-ge2 : goal.returns-then-level-ge2
returns-then-level-ge2 c = watched_all _ _ c.if-level-ge2.true

pub returns-else-level-ge2 : goal.returns-else-level-ge2
returns-else-level-ge2 c = watched_none _ _ c.if-level-ge2.false
