use Rattle.planner_c.specs.PlaceLaws.{buffer_near}
use Rattle.planner_c.proofs.planner_levels.Goals as goal

pub handed_code-requires : goal.handed_code-requires
handed_code-requires c = buffer_near _ _ _ _ _ c.own_levels.ensures
