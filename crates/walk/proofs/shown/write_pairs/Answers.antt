-- The pairs are written in the order of the chain: the invariant says which are written, and that the rest of the chain shown is next.
use mathlib.Core.Path.{ap, ◌∙◌}
use mathlib.Core.List.{List, ◌++◌}
use Prim.Native.Nat.{ℕ, ◌*◌}
use native.Mathlib.Omega.{arith}
use lib.ListN.{length, length-set}
use Rattle.walk.specs.ShownIn.{pair_row}
use Rattle.walk.proofs.PairsLaws.{
  few,
  several,
  ends_known,
  from_known,
  partner_there,
  partner_known,
  begun,
  beyond_first,
  job_there,
  to_known,
  link_there,
  link_known,
  at_last,
  linked,
  back_there,
  back_known,
  finished,
}
use Rattle.walk.proofs.shown.write_pairs.Goals as goal

pub unwrap-later-requires : goal.unwrap-later-requires
unwrap-later-requires c =
    let w = c.requires.to_pair in
    partner_there w _ (c.partner.ensures w.js w.laid)

pub put_pair-requires : goal.put_pair-requires
put_pair-requires c =
    let w = c.requires.to_pair in
    (omega arith, (ends_known w).1, partner_known w _ (c.partner.ensures w.js w.laid) _ c.unwrap-later.ensures)

pub loop-at-init : goal.loop-at-init
loop-at-init c = (
  ap length c.put_pair.ensures ∙ simp length-set c.requires.pairs_len,
  λ w. begun w _ (c.partner.ensures w.js w.laid) _ c.unwrap-later.ensures c.args.pairs.now _ c.requires.pairs_len c.put_pair.ensures,
)

pub overflow_sub-chain : goal.overflow_sub-chain
overflow_sub-chain c =
    let w = c.requires.to_pair in
    job_there w (c.loop-at.invariant.1 w) c.loop-at-test.true

pub lowest_pair-requires : goal.lowest_pair-requires
lowest_pair-requires c =
    let w = c.requires.to_pair in
    let going = c.loop-at.invariant.1 w in
    (from_known w going, to_known w going c.loop-at-test.true _ c.from-to.ensures)

pub unwrap-requires : goal.unwrap-requires
unwrap-requires c =
    let w = c.requires.to_pair in
    link_there w (c.loop-at.invariant.1 w) c.loop-at-test.true _ c.from-to.ensures _ (c.lowest_pair.ensures w.js w.laid)

pub put_pair-requires-in-loop-at : goal.put_pair-requires-in-loop-at
put_pair-requires-in-loop-at c =
    let w = c.requires.to_pair in
    let pair = link_known w (c.loop-at.invariant.1 w) c.loop-at-test.true _ c.from-to.ensures _ (c.lowest_pair.ensures w.js w.laid) _ c.unwrap.ensures in
    (omega (arith, few w, c.loop-at-test.true), pair.0, pair.1)

pub loop-at-preserved : goal.loop-at-preserved
loop-at-preserved c = (
  c.loop-at.invariant.0,
  λ w. linked w (c.loop-at.invariant.1 w) c.loop-at-test.true _ c.from-to.ensures _
      (c.lowest_pair.ensures w.js w.laid) _ c.unwrap.ensures _ c.loop-at.invariant.0 c.put_pair-in-loop-at.ensures,
)

pub lowest_pair-requires-2 : goal.lowest_pair-requires-2
lowest_pair-requires-2 c =
    let w = c.requires.to_pair in
    (from_known w (c.loop-at.invariant.1 w), (ends_known w).0)

pub unwrap-requires-2 : goal.unwrap-requires-2
unwrap-requires-2 c =
    let w = c.requires.to_pair in
    back_there w (at_last w (c.loop-at.invariant.1 w) c.loop-at-test.false) _ c.any_from-any.ensures _ (c.lowest_pair-2.ensures w.js w.laid)

pub put_pair-requires-2 : goal.put_pair-requires-2
put_pair-requires-2 c =
    let w = c.requires.to_pair in
    let going = at_last w (c.loop-at.invariant.1 w) c.loop-at-test.false in
    let pair = back_known w going _ c.any_from-any.ensures _ (c.lowest_pair-2.ensures w.js w.laid) _ c.unwrap-2.ensures in
    (few w, pair.0, pair.1)

pub returns : goal.returns
returns c w =
    let going = at_last w (c.loop-at.invariant.1 w) c.loop-at-test.false in
    let pair = c.lowest_pair-2.ensures w.js w.laid in
    finished w going _ c.any_from-any.ensures _ pair _ c.unwrap-2.ensures _ c.loop-at.invariant.0 c.put_pair-2.ensures
    ∙ ap (λ (r : List ℕ). pair_row w.ps ++ r) (beyond_first c.args.pairs.now _ (2 * length w.ps) _ _ (several w) c.put_pair.ensures)
