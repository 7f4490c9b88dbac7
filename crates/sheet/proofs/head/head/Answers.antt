use native.Mathlib.Omega.{arith}
use mathlib.Core.Path.{sym, ◌∙◌}
use Rattle.sheet.specs.Sheet.{head_at}
use Rattle.sheet.proofs.FoundLaws.{refused_is, passed_is, passed_on, whole_is}
use Rattle.sheet.proofs.HeadLaws.{head_form, head_jobs, head_objects, head_read}
use Rattle.sheet.proofs.head.head.Goals as goal

pub returns-in_err-whole : goal.returns-in_err-whole
unfolding head_at
returns-in_err-whole c = passed_is _ _ _ _ c.from_residual.ensures (passed_on _ _ _ c.in_err-whole.ensures)

pub bounds-s-3 : goal.bounds-s-3
bounds-s-3 c = omega (arith, whole_is _ 0 1 4 4 _ (omega arith) c.in_ok-whole.ensures)

pub returns-then-s-ne1 : goal.returns-then-s-ne1
returns-then-s-ne1 c = refused_is _ _ _ _ c.refuse.ensures (head_form _ _ (sym c.in_ok-whole.ensures) c.if-s-ne1.true)

pub bounds-s-4 : goal.bounds-s-4
bounds-s-4 c = omega (arith, whole_is _ 0 1 4 4 _ (omega arith) c.in_ok-whole.ensures)

pub returns-then-jobs-gt32 : goal.returns-then-jobs-gt32
returns-then-jobs-gt32 c =
    refused_is _ _ _ _ c.refuse-then-jobs-gt32.ensures
    (head_jobs _ _ (sym c.in_ok-whole.ensures) c.if-s-ne1.false _ c.from-jobs.ensures c.if-jobs-gt32.true)

pub word-requires : goal.word-requires
word-requires c = omega (arith, whole_is _ 0 1 4 4 _ (omega arith) c.in_ok-whole.ensures)

pub returns-then-objects-gt4096 : goal.returns-then-objects-gt4096
returns-then-objects-gt4096 c =
    refused_is _ _ _ _ c.refuse-then-objects-gt4096.ensures
    (head_objects _ _ (sym c.in_ok-whole.ensures) c.if-s-ne1.false _ c.from-jobs.ensures c.if-jobs-gt32.false _ (c.from-objects.ensures ∙ c.word.ensures) c.if-objects-gt4096.true)

pub returns : goal.returns
returns c =
    sym (head_read _ _ (sym c.in_ok-whole.ensures) c.if-s-ne1.false _ c.from-jobs.ensures c.if-jobs-gt32.false _ (c.from-objects.ensures ∙ c.word.ensures) c.if-objects-gt4096.false)
