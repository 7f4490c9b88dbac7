use borrow.Author.Rules.{rules}
use lib.ListN.{replicate}
use Rattle.planner_c.proofs.ShowLaws.{found_is}
use Rattle.planner_c.proofs.found.show.Goals as goal

pub returns : goal.returns
returns c =
    let a = c.args in
    found_is a.danger.t1 a.danger.b1 a.danger.t2 a.danger.tm c.from.result a.chain.now a.pairs.now (replicate 28 0) a.found.now _ _ _ _
    c.from.ensures (search rules) (search rules) (search rules) (search rules)
    c.put.ensures c.put-2.ensures c.put-3.ensures c.put-4.ensures
