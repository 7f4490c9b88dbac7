-- `lowest_pair` meets its contract: before each turn none of the earlier job's operations passed has a partner.
-- Assumes nothing.
use borrow.Author.Count.{below_more}
use Rattle.conflicts.proofs.pairs.lowest_pair.Goals as goal

pub loop-earlier-preserved : goal.loop-earlier-preserved
loop-earlier-preserved c js laid = below_more _ _ (c.loop-earlier.invariant js laid) (rw c.in_default.is at (c.partner.ensures js laid))
