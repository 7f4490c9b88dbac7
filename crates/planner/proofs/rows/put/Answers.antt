-- A turn's store takes the copy of i bytes to the copy of i + 1, which is `lib.Seq`'s law of `paste`.
-- Assumes nothing.
use native.Mathlib.Numerals.{add-one}
use native.Mathlib.Omega.{arith}
use mathlib.Core.Path.{◌≡◌}
use lib.ListN.{length}
use lib.Seq.{take-length, paste-zero, paste-suc}
use Rattle.planner.proofs.rows.put.Goals as goal

pub loop-i-init : goal.loop-i-init
loop-i-init c = paste-zero c.args.buffer.now c.args.at c.args.row.now

pub loop-i-preserved : goal.loop-i-preserved
loop-i-preserved c =
    let args = c.args in
    rw (c.loop-i.invariant, add-one) (paste-suc args.buffer.now args.at args.row.now c.loop-i.i 0 (omega arith) (omega arith))

pub returns : goal.returns
returns c =
    let end : c.loop-i.i ≡ length c.args.row.now = omega arith in
    rw (end, take-length) at c.loop-i.invariant
