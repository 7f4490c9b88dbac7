use mathlib.Core.Path.{◌≡◌}
use native.Mathlib.Omega.{arith}
use lib.Seq.{get_or-take, length-take-le}
use Rattle.splits.proofs.GuardLaws.{ssi_none, ssi_with, ssi_less}
use Rattle.splits.proofs.guard.at_ssi.Goals as goal
use Rattle.splits.proofs.guard.at_ssi.Goals.{then-level-ge2, else-level-ge2}

pub loop-j-init : goal.loop-j-init
loop-j-init c = ssi_none c.args.levels.now

pub loop-j-preserved : goal.loop-j-preserved
loop-j-preserved c =
    let at = c.loop-j in
    let levels = c.args.levels.now in
    let size = length-take-le c.args.jobs levels c.requires.1 in
    let same = get_or-take c.args.jobs levels at.j 0 (omega (arith, size, c.loop-j-test.true)) in
    elim c.if-level-ge2.branch [
      | then-level-ge2 w ↦ rw w.all-is (ssi_with levels at.j at.all at.invariant _ (omega (arith, same, w.if-level-ge2.true)) w.with-all.ensures)
      | else-level-ge2 w ↦ rw w.all-is (ssi_less levels at.j at.all at.invariant (omega (arith, same, w.if-level-ge2.false)))
    ]

pub returns : goal.returns
returns c =
    let size = length-take-le c.args.jobs c.args.levels.now c.requires.1 in
    let end : c.loop-j.j ≡ c.args.jobs = omega (arith, size, c.loop-j-test.false) in
    rw end at c.loop-j.invariant
