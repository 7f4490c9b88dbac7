-- `any` meets its contract.
-- Assumes nothing.
use Rattle.conflicts.proofs.SetsLaws.{any_of}
use Rattle.conflicts.proofs.sets.Sets.any.Goals as goal

pub returns : goal.returns
returns c = any_of _ _ _ _ _ _ c.union.ensures c.union-2.ensures
