-- The spread from the last jobs has the first ones that are joined.
use Rattle.walk.proofs.SidesLaws.{firsts_none, firsts_some}
use Rattle.walk.proofs.sides.firsts_of.Goals as goal

pub returns-then-first-eq0 : goal.returns-then-first-eq0
returns-then-first-eq0 c = firsts_none _ _ _ _ c.if-first-eq0.true

pub returns : goal.returns
returns c = firsts_some _ _ _ _ _ _ c.spread.ensures c.intersect.ensures
