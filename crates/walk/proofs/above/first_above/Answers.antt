-- No loop passes a danger: each joins what it has passed to what the loops around it had.
use mathlib.Core.Path.{sym, ◌∙◌}
use native.Mathlib.Omega.{arith}
use Rattle.walk.proofs.Keys.{set_out, go_on}
use Rattle.walk.proofs.Steps.{DangerAt, level_of_is, level_of_lem, watched_has, next_last, next_first, next_operation, next_job, ends, finds}
use Rattle.walk.proofs.above.first_above.Goals as goal

pub loop-t1-init : goal.loop-t1-init
loop-t1-init c = set_out _ _ _ _ _ (omega arith)

pub loop-b1-init : goal.loop-b1-init
loop-b1-init c =
    let watch = c.watched-watch in
    let jobs = c.args.sets.now.table.now.jobs in
    let levels = c.args.levels.now in
    let ssi = watched_has jobs levels c.loop-t1.t1 _ _ c.loop-t1-test.true c.at_ssi-ssi.ensures watch.ensures in (
      record {
        known = omega (arith, c.loop-t1-test.true, c.requires);
        ssi = ssi;
        closed = λ js of. c.paths_of-paths.ensures.shut js _ _ _ _ _ of;
        splits = λ js of. c.find_splits-ends.ensures.splits js (level_of_lem jobs levels) _ of (level_of_is jobs levels c.loop-t1.t1 c.loop-t1-test.true) ssi;
      },
      set_out _ _ _ _ _ c.loop-t1.invariant.small,
    )

pub loop-t2-init : goal.loop-t2-init
loop-t2-init c = set_out _ _ _ _ _ c.loop-b1.invariant.1.small

pub loop-tm-init : goal.loop-tm-init
loop-tm-init c = set_out _ _ _ _ _ c.loop-t2.invariant.small

pub loop-tm-preserved : goal.loop-tm-preserved
loop-tm-preserved c =
    next_last _ _ _ _ _ _ _ c.loop-b1.invariant.0 (omega arith) _ (rw c.paths_of-paths.ensures.same at c.firsts_of-firsts.ensures) _ (rw c.paths_of-paths.ensures.same at c.lasts_of-lasts.ensures)
    (omega arith) (sym c.has.ensures ∙ c.if-has.false) c.loop-tm.invariant

pub loop-t2-preserved : goal.loop-t2-preserved
loop-t2-preserved c =
    next_first _ _ _ _ _ _ _ c.loop-b1.invariant.0 (omega arith) _ (rw c.paths_of-paths.ensures.same at c.firsts_of-firsts.ensures) _ _ (rw c.paths_of-paths.ensures.same at c.lasts_of-lasts.ensures)
    (omega arith) c.end_of-tm-end.ensures.1 c.loop-tm-test.false (go_on _ c.loop-t2.invariant c.loop-tm.invariant)

pub loop-b1-preserved : goal.loop-b1-preserved
loop-b1-preserved c = (
  c.loop-b1.invariant.0,
  next_operation _ _ _ _ _ _ _ c.loop-b1.invariant.0 (omega arith) _ (rw c.paths_of-paths.ensures.same at c.firsts_of-firsts.ensures) _ c.end_of-t2-end.ensures.1
      c.loop-t2-test.false (go_on _ c.loop-b1.invariant.1 c.loop-t2.invariant),
)

pub loop-t1-preserved : goal.loop-t1-preserved
loop-t1-preserved c = next_job _ _ _ _ _ _ _ c.loop-b1-test.false (go_on (DangerAt _ _) c.loop-t1.invariant c.loop-b1.invariant.1)

pub returns-after-loop-t1 : goal.returns-after-loop-t1
returns-after-loop-t1 c =
    λ js of n. ends _ _ _ _ c.start_above-start.ensures js of n _ _ _ _ c.loop-t1-test.false c.loop-t1.invariant

pub returns-then-has : goal.returns-then-has
returns-then-has c =
    let passed = go_on _ c.loop-t1.invariant (go_on _ c.loop-b1.invariant.1 (go_on _ c.loop-t2.invariant c.loop-tm.invariant)) in
    λ js of n. rw c.four.ensures (finds _ _ _ _ c.start_above-start.ensures js of n _ _ _ _ c.loop-b1.invariant.0 (omega arith) _ (rw c.paths_of-paths.ensures.same at c.firsts_of-firsts.ensures) _
    (rw c.paths_of-paths.ensures.same at c.lasts_of-lasts.ensures) (sym c.has.ensures ∙ c.if-has.true) passed)
