use Rattle.std.proofs.Common.{◌≡◌, Err, rules}
use Rattle.theory.specs.Form1.{form1}
use Rattle.sheet.specs.Jobs.{jobs_of}
use Rattle.verdict.specs.Verdict.{Lowers}
use Rattle.planner.proofs.AnswerLaws.{by_room, ready, room_asked, read_stands, buffer_kept, buffer_filled}
use Rattle.planner.proofs.lowest.Goals as goal

pub find_lowest-requires : goal.find_lowest-requires
find_lowest-requires c =
    let r = ready (by_room _) _ _ c.read_sheet-read.ensures c.in_ok-check_with_room.ensures in
    record { jobs_bound = room_asked _ _ _ r; stands = read_stands _ r.known }

pub returns : goal.returns
returns c =
    let r = ready (by_room _) _ _ c.read_sheet-read.ensures c.in_ok-check_with_room.ensures in
    buffer_filled (λ t. Lowers form1 (jobs_of t)) _ _ _ r _ _ (c.find_lowest.ensures (read_stands _ r.known))

pub returns-in_err-check_with_room : goal.returns-in_err-check_with_room
returns-in_err-check_with_room c =
    let err = c.in_err-check_with_room in
    let is : c.from_residual.result ≡ Err err.field-0.0 = search rules in
    rw is (buffer_kept (λ t. Lowers form1 (jobs_of t)) _ _ _ (err.ensures _ c.read_sheet-read.ensures))
