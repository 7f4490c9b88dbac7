use borrow.Author.Rules.{rules}
use native.Mathlib.Omega.{arith}
use Rattle.chain.proofs.Spreads.{Turn, spread_starts, spread_turn, spread_ends}
use Rattle.chain.proofs.Paths.spread.Goals.{After-union-seen}
use Rattle.chain.proofs.Paths.spread.Goals as goal

turn : (c : After-union-seen)
    → Turn c.args.self.clash.now c.args.self.shut c.args.from c.loop-todo.seen c.loop-todo.todo c.union-seen.result c.union-todo.result
turn c =
    spread_turn
    _ _ _ _ _ _ _ _ _ _ _ _
    c.loop-todo.invariant.2
    c.lowest-job.ensures
    c.without.ensures
    c.without-fresh.ensures
    c.single.ensures
    c.without-in-loop-todo.ensures
    c.union-todo.ensures
    c.union-seen.ensures

pub loop-todo-init : goal.loop-todo-init
loop-todo-init c = (search rules, search rules, spread_starts _ _ _)

pub loop-todo-smaller : goal.loop-todo-smaller
loop-todo-smaller c = (turn c).falls

pub loop-todo-preserved : goal.loop-todo-preserved
loop-todo-preserved c = (search rules, search rules, (turn c).next)

pub returns : goal.returns
returns c = spread_ends _ _ _ _ _ (omega arith) c.loop-todo.invariant.2
