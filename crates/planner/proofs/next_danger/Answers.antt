use Rattle.planner.proofs.AnswerLaws.{by_levels, ready, levels_asked, read_stands, walk_told}
use Rattle.planner.proofs.next_danger.Goals as goal

pub first_above-requires : goal.first_above-requires
first_above-requires c =
    let r = ready (by_levels _) _ _ c.read_sheet-read.ensures c.in-Ok.ensures in
    record { jobs_bound = levels_asked _ _ _ r; stands = read_stands _ r.known }

pub returns-in-Ok : goal.returns-in-Ok
returns-in-Ok c =
    let r = ready (by_levels _) _ _ c.read_sheet-read.ensures c.in-Ok.ensures in
    walk_told _ _ _ _ _ r (c.first_above.ensures (read_stands _ r.known))
