use Rattle.std.proofs.Common.{◌≡◌, Err, rules}
use native.Mathlib.Omega.{arith}
use Rattle.sheet.specs.AnswerLaws.{answer_table}
use Rattle.planner.specs.Questions.{Copies}
use Rattle.planner.proofs.AnswerLaws.{by_room, ready, room_asked, levels_copied, buffer_kept, buffer_filled}
use Rattle.planner.proofs.own_levels.Goals as goal

pub copy_levels-requires : goal.copy_levels-requires
copy_levels-requires c =
    let r = ready (by_room _) _ _ c.read_sheet-read.ensures c.in_ok-check_with_room.ensures in
    let asked = room_asked _ _ _ r in
    (asked.0, asked.2)

pub overflow_cast-result : goal.overflow_cast-result
overflow_cast-result c = omega (arith, (answer_table _ _ c.read_sheet-read.ensures).operations.jobs_most)

pub returns : goal.returns
returns c =
    let r = ready (by_room _) _ _ c.read_sheet-read.ensures c.in_ok-check_with_room.ensures in
    buffer_filled Copies _ _ _ r _ _ (levels_copied _ _ _ _ r c.copy_levels.ensures)

pub returns-in_err-check_with_room : goal.returns-in_err-check_with_room
returns-in_err-check_with_room c =
    let err = c.in_err-check_with_room in
    let is : c.from_residual.result ≡ Err err.field-0.0 = search rules in
    rw is (buffer_kept Copies _ _ _ (err.ensures _ c.read_sheet-read.ensures))
