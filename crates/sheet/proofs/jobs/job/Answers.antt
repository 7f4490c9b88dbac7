use native.Mathlib.Omega.{arith}
use mathlib.Core.Path.{refl, sym}
use Rattle.sheet.specs.Sheet.{job_at}
use Rattle.sheet.specs.SheetLaws.{outside_false}
use Rattle.sheet.proofs.FoundLaws.{outside_is, refused_is, passed_is, passed_on, whole_is}
use Rattle.sheet.proofs.JobLaws.{job_level, job_count, job_length, job_refused, job_stored}
use Rattle.sheet.proofs.jobs.job.Goals as goal

pub returns-in_err-len : goal.returns-in_err-len
unfolding job_at
returns-in_err-len c = (passed_is _ _ _ _ c.from_residual.ensures (passed_on _ _ _ c.in_err-len.ensures), (refl, refl))

pub bounds-s-at : goal.bounds-s-at
bounds-s-at c = omega (arith, whole_is _ _ 2 2 65535 _ c.requires.1 c.in_ok-len.ensures)

pub returns-then-level-gt2 : goal.returns-then-level-gt2
returns-then-level-gt2 c =
    (refused_is _ _ _ _ c.refuse.ensures (job_level _ _ _ _ _ (sym c.in_ok-len.ensures) c.if-level-gt2.true), (refl, refl))

pub bounds-s-at-2 : goal.bounds-s-at-2
bounds-s-at-2 c = omega (arith, whole_is _ _ 2 2 65535 _ c.requires.1 c.in_ok-len.ensures)

pub returns-then-not-contains : goal.returns-then-not-contains
returns-then-not-contains c =
    let o = outside_is _ c.new.ensures.start c.new.ensures.end c.new.ensures.exhausted c.contains.ensures.value c.if-not-contains.true in (
      refused_is _ _ _ _ c.refuse-then-not-contains.ensures
          (job_count _ _ _ _ _ (sym c.in_ok-len.ensures) c.if-level-gt2.false _ c.from-n.ensures o),
      (refl, refl),
    )

pub returns-then-len-n : goal.returns-then-len-n
returns-then-len-n c =
    let o = outside_is _ c.new.ensures.start c.new.ensures.end c.new.ensures.exhausted c.contains.ensures.value c.if-not-contains.false in (
      refused_is _ _ _ _ c.refuse-then-len-n.ensures
          (job_length _ _ _ _ _ (sym c.in_ok-len.ensures) c.if-level-gt2.false _ c.from-n.ensures o c.if-len-n.true),
      (refl, refl),
    )

pub operations-requires : goal.operations-requires
operations-requires c =
    let w = whole_is _ _ 2 2 65535 _ c.requires.1 c.in_ok-len.ensures in
    let o = outside_is _ c.new.ensures.start c.new.ensures.end c.new.ensures.exhausted c.contains.ensures.value c.if-not-contains.false in
    let few = outside_false 1 16 c.from-n.result o in
    (omega arith, omega (arith, w.within))

pub returns-in_err-next : goal.returns-in_err-next
returns-in_err-next c =
    let o = outside_is _ c.new.ensures.start c.new.ensures.end c.new.ensures.exhausted c.contains.ensures.value c.if-not-contains.false in
    let e = c.in_err-next.ensures in (
      passed_is _ _ _ _ c.from_residual-in_err-next.ensures
          (job_refused _ _ _ _ _ (sym c.in_ok-len.ensures) c.if-level-gt2.false _ c.from-n.ensures o c.if-len-n.false _ e.0),
      (e.1.0, e.1.1),
    )

pub returns : goal.returns
returns c =
    let o = outside_is _ c.new.ensures.start c.new.ensures.end c.new.ensures.exhausted c.contains.ensures.value c.if-not-contains.false in
    let e = c.in_ok-next.ensures in (
      job_stored _ _ _ _ _ (sym c.in_ok-len.ensures) c.if-level-gt2.false _ c.from-n.ensures o c.if-len-n.false
          _ _ _ e.0 e.1.2 e.1.3,
      (e.1.0, e.1.1),
    )
