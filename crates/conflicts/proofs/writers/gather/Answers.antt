-- `gather` meets its contract: before each turn `seen` has the writers among the entries passed.
-- Assumes nothing.
use mathlib.Core.Path.{sym, ◌∙◌}
use native.Mathlib.Omega.{arith}
use Rattle.std.proofs.Common.{get_or-take}
use Rattle.conflicts.proofs.WritersLaws.{gathered_none, gathered_skip, gathered_store}
use Rattle.conflicts.proofs.writers.gather.Goals as goal
use Rattle.conflicts.proofs.writers.gather.Goals.{then-kind-eq2+in-Some, then-kind-eq2+in_default, else-kind-eq2}

pub loop-i-init : goal.loop-i-init
loop-i-init c = gathered_none _ _ _ _ c.requires.1

pub loop-i-preserved : goal.loop-i-preserved
loop-i-preserved c =
    let g = c.loop-i.invariant in
    let kind = sym (get_or-take c.args.end c.args.table.now.kind c.loop-i.i 0 (omega (arith, c.loop-i-test.true))) in
    elim c.if-kind-eq2.branch [
      | then-kind-eq2+in-Some w ↦ (
          let at = rw w.in-Some.is at w.place.ensures in
          rw w.seen-is (gathered_store _ _ _ _ _ _ _ g at.0 (kind ∙ w.if-kind-eq2.true) (sym at.1) w.with.ensures)
          )
      | then-kind-eq2+in_default w ↦ (
          let at = rw w.in_default.is at w.place.ensures in
          rw w.seen-is (gathered_skip _ _ _ _ _ g (λ s h a e. at s h (sym e)))
          )
      | else-kind-eq2 w ↦ rw w.seen-is (gathered_skip _ _ _ _ _ g (λ s h a e. w.if-kind-eq2.false (sym kind ∙ a)))
    ]
