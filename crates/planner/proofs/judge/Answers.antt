use mathlib.Core.Bool.{true, false}
use Rattle.planner.proofs.AnswerLaws.{answers_passed, by_levels, ready, levels_asked, read_stands}
use Rattle.planner.proofs.judge.Goals as goal

pub is_robust-requires : goal.is_robust-requires
is_robust-requires c =
    let r = ready (by_levels _) _ _ c.read_sheet-read.ensures c.in_ok-check_with_levels.ensures in
    record { jobs_bound = levels_asked _ _ _ r; stands = read_stands _ r.known }

pub returns-then-is_robust : goal.returns-then-is_robust
returns-then-is_robust c =
    let r = ready (by_levels _) _ _ c.read_sheet-read.ensures c.in_ok-check_with_levels.ensures in
    answers_passed _ _ _ true r.passed (rw c.if-is_robust.true at (c.is_robust.ensures (read_stands _ r.known)))

pub returns-else-is_robust : goal.returns-else-is_robust
returns-else-is_robust c =
    let r = ready (by_levels _) _ _ c.read_sheet-read.ensures c.in_ok-check_with_levels.ensures in
    answers_passed _ _ _ false r.passed (rw c.if-is_robust.false at (c.is_robust.ensures (read_stands _ r.known)))
