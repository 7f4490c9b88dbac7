use Rattle.planner.proofs.StepLaws.{found_stand}
use Rattle.planner.proofs.tables.first_above.Goals as goal

pub next_of-requires-clause-sets_stand : goal.next_of-requires-clause-sets_stand
next_of-requires-clause-sets_stand c =
    let k = c.requires.stands in
    found_stand _ _ c.find-sets.ensures.same k (c.find-sets.ensures.found k)

pub returns : goal.returns
returns c = λ k. c.next_of.ensures (found_stand _ _ c.find-sets.ensures.same k (c.find-sets.ensures.found k))
