-- `hand_out` meets its contract: before each turn the entries passed have their jobs.
-- Assumes nothing.
use mathlib.Core.Path.{◌≡◌}
use native.Mathlib.Omega.{arith}
use Rattle.std.proofs.Common.{length-take-le}
use Rattle.std.proofs.lemmas.List.{set-get_or}
use Rattle.conflicts.proofs.WritersLaws.{handed_skip, handed_store, handed_front}
use Rattle.conflicts.proofs.writers.hand_out.Goals as goal
use Rattle.conflicts.proofs.writers.hand_out.Goals.{in-Some, in_default}

pub loop-i-preserved : goal.loop-i-preserved
loop-i-preserved c =
    let at = c.loop-i in
    let d = at.invariant in
    elim c.match-place.branch [
      | in-Some w ↦ (
          let in_span = rw w.in-Some.is at c.place.ensures in
          rw w.writer-items-is (handed_store _ _ _ _ _ _ _ d (omega (arith, c.loop-i-test.true, at.auto.writer-items)) in_span.0 in_span.1)
          )
      | in_default w ↦ (
          let out = rw w.in_default.is at c.place.ensures in
          rw (w.writer-items-is, set-get_or at.writer-items at.i 0) (handed_skip _ _ _ _ _ _ d out)
          )
    ]

pub returns : goal.returns
returns c =
    let at = c.loop-i in
    let room = length-take-le c.args.end c.args.writers.now (omega arith) in
    let end : at.i ≡ c.args.end = omega (arith, c.loop-i-test.false, at.auto.writer-items, room) in
    handed_front _ _ _ _ _ _ (omega arith) (rw end at at.invariant)
