use Rattle.planner.proofs.StepLaws.{found_stand}
use Rattle.survey.proofs.put_table.Goals as goal

pub put_dangers-requires-clause-sets_stand : goal.put_dangers-requires-clause-sets_stand
put_dangers-requires-clause-sets_stand g c =
    let k = c.requires.2 in
    found_stand _ _ c.find-sets.ensures.same k (c.find-sets.ensures.found k)
