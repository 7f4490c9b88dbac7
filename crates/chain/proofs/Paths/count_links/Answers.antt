use native.Mathlib.Omega.{arith}
use borrow.Author.Rules.{rules}
use Rattle.chain.proofs.Layers.{going_starts, going_found, going_more, going_ends, going_full}
use Rattle.chain.proofs.Paths.count_links.Goals as goal

pub loop-n-init : goal.loop-n-init
loop-n-init c =
    let pre = c.requires in
    going_starts _ _ _ _ _ _ pre.apart c.told-layers (search rules) c.single-seen.ensures

pub returns-then-layer-eq0 : goal.returns-then-layer-eq0
returns-then-layer-eq0 c = going_ends _ _ _ _ _ _ _ _ c.if-layer-eq0.true c.loop-n.invariant

pub returns-then-intersect-gt0 : goal.returns-then-intersect-gt0
returns-then-intersect-gt0 c =
    let pre = c.requires in
    going_found
    _ _ _ _ _ _ _ _ _
    c.loop-n.invariant
    (omega arith)
    c.intersect.ensures
    pre.jobs.0
    c.if-intersect-gt0.true
    (search rules)

pub loop-n-preserved : goal.loop-n-preserved
loop-n-preserved c =
    let pre = c.requires in
    going_more
    _ _ _ _ _ _ _ _ _
    c.loop-n.invariant
    (omega arith)
    c.intersect.ensures
    _ _ _ _
    (omega arith)
    pre.both
    c.around.ensures.rows
    (search rules)
    (search rules)
    c.around.ensures.near
    c.without.ensures
    c.without-layer.ensures
    c.union-seen.ensures

pub returns : goal.returns
returns c = going_full _ _ _ _ _ _ _ _ (omega arith) c.loop-n.invariant
