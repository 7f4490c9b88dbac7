use Prim.Native.Nat.{◌-◌}
use native.Mathlib.Numerals.{add-one}
use native.Mathlib.Omega.{arith}
use Rattle.chain.proofs.Chains.{some_next, ready_next, built_more}
use Rattle.chain.proofs.Paths.+build.Goals as goal

pub lowest-next-requires : goal.lowest-next-requires
lowest-next-requires t c = some_next _ _ _ (c.args.left - 1) _ c.intersect.ensures c.args.left _ (omega arith) c.requires

pub build-requires : goal.build-requires
build-requires t c = (
  omega arith,
  ready_next _ _ _ _ _ c.intersect.ensures _ _ _ _ _ c.lowest-next.ensures (omega arith) c.in-Some.ensures.cases.0 c.requires,
)

pub returns : goal.returns
returns t c =
    built_more
    _ _ _ _ _
    c.intersect.ensures
    _ _ _ _ _
    c.lowest-next.ensures
    (omega arith)
    c.in-Some.ensures.cases.0
    _ _
    (add-one _)
    c.build.ensures
