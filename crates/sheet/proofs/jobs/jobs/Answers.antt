use Prim.Native.Nat.{◌-◌}
use native.Mathlib.Omega.{arith}
use mathlib.Core.Path.{◌≡◌, sym, ◌∙◌}
use Rattle.sheet.specs.Sheet.{jobs_at}
use Rattle.sheet.proofs.FoundLaws.{passed_is, same_head}
use Rattle.sheet.proofs.JobLaws.{jobs_on, jobs_within, jobs_refused}
use Rattle.sheet.proofs.jobs.jobs.Goals as goal

pub returns-in_err-at : goal.returns-in_err-at
returns-in_err-at c =
    let t = c.args.table.now in
    let i = c.loop-j.invariant in
    let o = c.in_err-at.ensures in (
      passed_is _ _ _ _ c.from_residual.ensures
          (jobs_refused _ t.objects t.jobs c.loop-j.j _ c.loop-j-test.true _ (rw i.3.1 at o.0) ∙ i.2),
      same_head t c.loop-j.table c.job.new.table i.3 o.1,
    )

pub loop-j-preserved : goal.loop-j-preserved
loop-j-preserved c =
    let t = c.args.table.now in
    let i = c.loop-j.invariant in
    let o = c.in_ok-at.ensures in
    let e = rw i.3.1 at o.0 in
    let d = c.loop-j-test.true in (
      omega arith,
      jobs_within _ t.objects t.jobs c.loop-j.j _ d _ e i.1,
      sym (jobs_on _ t.objects t.jobs c.loop-j.j _ d _ e) ∙ i.2,
      same_head t c.loop-j.table c.job.new.table i.3 o.1,
    )

pub returns : goal.returns
unfolding jobs_at
returns c =
    let z : c.args.table.now.jobs - c.loop-j.j ≡ 0 = omega arith in
    let i = c.loop-j.invariant in
    (rw z at i.2, i.3)
