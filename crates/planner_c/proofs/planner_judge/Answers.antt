use Rattle.planner_c.specs.PlaceLaws.{judge_near}
use Rattle.planner_c.proofs.planner_judge.Goals as goal

pub code-requires : goal.code-requires
code-requires c = judge_near _ _ _ c.in-Err.r c.judge.ensures c.in-Err.is
