-- `find_writers` meets its contract: before each turn the operations on objects of the spans passed have their jobs.
-- Assumes nothing.
use native.Mathlib.Omega.{arith}
use Rattle.conflicts.proofs.WritersLaws.{written_none, written_more, written_all}
use Rattle.conflicts.proofs.writers.find_writers.Goals as goal

pub loop-from-init : goal.loop-from-init
loop-from-init c = written_none _ _ _ _ c.requires.jobs_bound.2

pub loop-from-preserved : goal.loop-from-preserved
loop-from-preserved c =
    written_more _ _ _ _ _ _ _ c.gather.ensures c.hand_out.ensures c.loop-from.invariant

pub returns : goal.returns
returns c = written_all _ _ _ _ _ _ (omega arith) c.requires.writes_below c.loop-from.invariant

pub returns-2 : goal.returns-2
returns-2 c =
    written_all _ _ _ _ _ _ (omega arith) c.requires.writes_below
    (written_more _ _ _ _ _ _ _ c.gather.ensures c.hand_out.ensures c.loop-from.invariant)
