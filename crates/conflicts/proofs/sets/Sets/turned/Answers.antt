-- `turned` meets its contract: before each turn the set is that of the jobs passed.
-- Assumes nothing.
use mathlib.Core.Path.{◌≡◌, refl, sym, ◌∙◌}
use native.Mathlib.Omega.{arith}
use Rattle.std.proofs.Common.{get_or-take}
use Rattle.conflicts.proofs.SetsLaws.{turned_none, turned_take, turned_skip, turned_all}
use Rattle.conflicts.proofs.sets.Sets.turned.Goals as goal
use Rattle.conflicts.proofs.sets.Sets.turned.Goals.{then-has, else-has}

pub loop-k-init : goal.loop-k-init
loop-k-init c = turned_none _ _ _ refl

pub loop-k-preserved : goal.loop-k-preserved
loop-k-preserved c =
    let at = c.loop-k.invariant in
    let table = c.args.self.now.table.now in
    let entry = get_or-take table.jobs c.args.self.now.rw c.loop-k.k 0 (omega (arith, c.loop-k-test.true)) in
    let told = sym c.has.ensures in
    elim c.if-has.branch [
      | then-has w ↦ rw w.all-is (turned_take _ _ _ _ _ at ((rw entry at told) ∙ w.if-has.true) w.with-all.ensures)
      | else-has w ↦ rw w.all-is (turned_skip _ _ _ _ at ((rw entry at told) ∙ w.if-has.false))
    ]

pub returns : goal.returns
returns c =
    let at = c.loop-k in
    let end : at.k ≡ c.args.self.now.table.now.jobs = omega arith in
    turned_all _ _ _ _ (rw end at at.invariant)
