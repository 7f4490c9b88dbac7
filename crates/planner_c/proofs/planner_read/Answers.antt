use Rattle.planner_c.specs.PlaceLaws.{read_near}
use Rattle.planner_c.proofs.planner_read.Goals as goal

pub code-requires : goal.code-requires
code-requires c = read_near _ _ c.in-Err.r c.read_sheet.ensures c.in-Err.is
