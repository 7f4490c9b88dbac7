use Rattle.std.proofs.Common.{◌≡◌, refl, Some, Ok, rules}
use Rattle.planner_c.specs.PlaceLaws.{next_near}
use Rattle.planner_c.proofs.NextLaws.{next_reply}
use Rattle.planner_c.proofs.planner_next.Goals as goal

pub code-requires : goal.code-requires
code-requires c = next_near _ _ _ _ c.in-Err.r c.next_danger-answer.ensures c.in-Err.is

pub returns-in-Ok-Some : goal.returns-in-Ok-Some
returns-in-Ok-Some c =
    let next = c.next_danger-answer in
    let is : next.result.walk ≡ Ok (Some c.in-Ok-Some.danger) = search rules in
    next_reply _ _ _ _ _ _ next.result next.ensures _ is refl c.show.ensures

pub returns-in-Err : goal.returns-in-Err
returns-in-Err c =
    let next = c.next_danger-answer in
    next_reply _ _ _ _ _ _ next.result next.ensures _ c.in-Err.is c.code.ensures refl
