use borrow.Author.Rules.{rules}
use native.Mathlib.Omega.{arith}
use Rattle.chain.proofs.Arounds.{Gathered, around_starts, around_turn, around_ends}
use Rattle.chain.proofs.around.Goals.{After-without-left}
use Rattle.chain.proofs.around.Goals as goal

turn : (c : After-without-left) → Gathered c.args.clash.now c.args.jobs c.loop-left.near c.loop-left.left c.union-near.result c.without-left.result
turn c =
    around_turn
    _ _ _ _ _ _ _ _
    c.loop-left.invariant.2
    c.lowest-job.ensures
    c.union-near.ensures
    c.single.ensures
    c.without-left.ensures

pub loop-left-init : goal.loop-left-init
loop-left-init c = (search rules, search rules, around_starts _ _)

pub loop-left-smaller : goal.loop-left-smaller
loop-left-smaller c = (turn c).falls

pub loop-left-preserved : goal.loop-left-preserved
loop-left-preserved c = (search rules, search rules, (turn c).next)

pub returns-clause-near : goal.returns-clause-near
returns-clause-near c = around_ends _ _ _ _ (omega arith) c.loop-left.invariant.2
