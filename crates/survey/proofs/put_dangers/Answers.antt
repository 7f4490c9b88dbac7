use Rattle.std.proofs.Common.{◌≡◌, Ok, Some, rules, arith}
use Rattle.survey.proofs.RiseLaws.{rises}
use Rattle.survey.proofs.put_dangers.Goals as goal

pub loop-danger-smaller : goal.loop-danger-smaller
loop-danger-smaller g c =
    let step = c.next_of-step in
    let is : step.result.walk ≡ Ok (Some c.in-Ok-Some.danger) = search rules in
    let rise = rises c.requires.sets_stand.js _ _ _ step.result c.loop-danger.invariant.1 c.put_found.ensures is (step.ensures c.requires.sets_stand) in
    omega (arith, c.put_found.ensures, rise)

pub loop-danger-preserved : goal.loop-danger-preserved
loop-danger-preserved g c =
    let step = c.next_of-step in
    let is : step.result.walk ≡ Ok (Some c.in-Ok-Some.danger) = search rules in
    let rise = rises c.requires.sets_stand.js _ _ _ step.result c.loop-danger.invariant.1 c.put_found.ensures is (step.ensures c.requires.sets_stand) in
    (omega (arith, rise), c.put_found.ensures)
