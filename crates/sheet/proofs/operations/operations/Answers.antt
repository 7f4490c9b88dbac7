use Prim.Native.Nat.{◌-◌}
use native.Mathlib.Omega.{arith}
use mathlib.Core.Path.{◌≡◌, refl, sym, ◌∙◌}
use Rattle.sheet.specs.Sheet.{operations_at}
use Rattle.sheet.proofs.FoundLaws.{passed_is, same_rows}
use Rattle.sheet.proofs.OperationLaws.{operations_on, operations_place, operations_refused}
use Rattle.sheet.proofs.operations.operations.Goals as goal

pub returns-in_err-at : goal.returns-in_err-at
returns-in_err-at c =
    let a = c.args in
    let i = c.loop-n.invariant in
    let o = c.in_err-at.ensures in (
      passed_is _ _ _ _ c.from_residual.ensures
          (operations_refused _ a.table.now.objects a.base a.count c.loop-n.n _ (omega arith) _ (rw i.4.1 at o.0) ∙ i.3),
      same_rows a.table.now c.loop-n.table c.operation.new.table i.4 o.1,
    )

pub loop-n-preserved : goal.loop-n-preserved
loop-n-preserved c =
    let a = c.args in
    let i = c.loop-n.invariant in
    let o = c.in_ok-at.ensures in
    let e = rw i.4.1 at o.0 in
    let p = operations_place _ a.table.now.objects a.base a.count c.loop-n.n _ (omega arith) _ e in (
      omega arith,
      omega (arith, p, i.1),
      o.2 _ refl,
      sym (operations_on _ a.table.now.objects a.base a.count c.loop-n.n _ (omega arith) _ e) ∙ i.3,
      same_rows a.table.now c.loop-n.table c.operation.new.table i.4 o.1,
    )

pub returns : goal.returns
unfolding operations_at
returns c =
    let z : c.args.count - c.loop-n.n ≡ 0 = omega arith in
    let i = c.loop-n.invariant in
    (rw z at i.3, i.4)
