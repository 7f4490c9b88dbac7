-- One door for other crates: the names that they cite.
pub use Rattle.theory.specs.Find.{some?, every?, meet?}
pub use Rattle.theory.specs.Danger.{Rule, Jobs, distinct?, last, inner, SSI, wr, clash, job, alone, prefix, postfix, Some, None, conflict?, free?, linked?, Chain, Split, SplitAt, Guard, Danger, Robust}
pub use Rattle.theory.specs.Guards.{Paper}
pub use Rattle.theory.specs.Form1.{form1, kinds?}
pub use Rattle.theory.specs.Lowest.{level, RobustBy, Levels, Below, Lowest, ruled, asked, Asked, above}
unfoldable pub use Rattle.theory.specs.Lowest.{settle, judged, settle_from, judged_from}
pub use Rattle.theory.specs.Shown.{Before, Sooner, ShownJobs, LowestPair, PairAt, Leaves, Returns, Onward, Pairs, Shown}
pub use Rattle.theory.specs.Walk.{Four, row, zeros, from_one_lem, Answer, found, end, Names, Next, Walks, Whole}
pub use Rattle.theory.specs.Reach.{Through, Links, Best, Passes, Path}
pub use Rattle.theory.specs.Planner.{Chain₁, Robust₁, Lowest₁, Asked₁, ShownJobs₁, Split₁, Missed₁, Danger₁, Names₁, Walks₁, Shown₁}
pub use Rattle.theory.proofs.PlannerLaws.{one_answer₁, walk_whole₁, shown₁, one_shown₁, raise₁, all_ssi₁, lowest₁, one_lowest₁, robust_iff₁, robust_alone₁, found_alone₁, number_asked₁, one_asked₁, asked_within₁}
pub use Rattle.theory.proofs.KnownLaws.{op_known, alone_known, job_known, first_known, last_known, first_apart, last_apart, alone_chain, b1_known, t1_known, t2_known, tm_known, t2_apart, tm_apart}
pub use Rattle.theory.proofs.DangerLaws.{in_prefix, none_whole, none_prefix, none_postfix, split_known, split_whole, paper_same, paper_near}
pub use Rattle.theory.proofs.PairLaws.{one_pair, lowest_pair_lem, one_pairs, pairs_count}
pub use Rattle.theory.proofs.PlaceLaws.{Part, part_whole, part_prefix, part_postfix, part_alone, Met, met}
pub use Rattle.theory.proofs.Form1Laws.{kinds_out, kinds_in, conflict_both, Writes, writes_known, WritesOnce, OnlyWrite, only_write}
pub use Rattle.theory.proofs.ReachLaws.{Edge, Free, through_links, path_through, path_links, links_path, through_map, links_map, best_map, links_back, links_goal, path_chain, chain_path, links_chain, chain_links, reach, links_few, best_shown, chain_few, danger_iff}
pub use Rattle.theory.proofs.LowestLaws.{tops, level_tops, level_beyond, level_known, level_set, levels_tops, levels_set, below_tops}
pub use Rattle.theory.proofs.WalkLaws.{Rising, above_zeros, one_answer, whole_walk, one_whole}
