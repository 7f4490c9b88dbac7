-- The chain is shown first, and then its pairs.
use native.Mathlib.Omega.{arith}
use Rattle.walk.proofs.ShownLaws.{askable, chain_there, fits, pairs_askable, shown_in}
use Rattle.walk.proofs.shown.show.Goals as goal

pub show-requires : goal.show-requires
show-requires c = rw c.paths_of-paths.ensures.same (askable c.requires.danger_in)

pub unwrap-n-requires : goal.unwrap-n-requires
unwrap-n-requires c = chain_there c.requires.danger_in _ c.paths_of-paths.ensures.shut _ _ _ (rw c.paths_of-paths.ensures.same at c.show.ensures)

pub shared_ref_as_front-write_pairs : goal.shared_ref_as_front-write_pairs
shared_ref_as_front-write_pairs c = omega (arith, fits c.requires.danger_in _ c.paths_of-paths.ensures.shut _ _ _ (rw (c.paths_of-paths.ensures.same, c.unwrap-n.ensures) at c.show.ensures))

pub write_pairs-requires-clause-to_pair : goal.write_pairs-requires-clause-to_pair
write_pairs-requires-clause-to_pair c = pairs_askable c.requires.danger_in _ c.paths_of-paths.ensures.shut _ _ _ (rw (c.paths_of-paths.ensures.same, c.unwrap-n.ensures) at c.show.ensures)

pub returns : goal.returns
returns c d = shown_in d _ c.paths_of-paths.ensures.shut _ _ _ (rw (c.paths_of-paths.ensures.same, c.unwrap-n.ensures) at c.show.ensures) _ _ c.write_pairs.ensures
