use native.Mathlib.Omega.{arith}
use mathlib.Core.Path.{◌∙◌}
use Rattle.sheet.proofs.FoundLaws.{refused_is, passed_is}
use Rattle.sheet.proofs.FillLaws.{from_none, sheet_head, head_is, sheet_jobs, jobs_lie, sheet_end, end_is, sheet_after, sheet_filled}
use Rattle.sheet.proofs.fill.Goals as goal

pub returns-in_err-declared : goal.returns-in_err-declared
returns-in_err-declared c = passed_is _ _ _ _ c.from_residual.ensures (sheet_head _ _ c.in_err-declared.ensures)

pub jobs-requires : goal.jobs-requires
jobs-requires c =
    let h = head_is _ _ _ c.in_ok-declared.ensures in
    (h.jobs_in, h.long)

pub returns-in_err-at : goal.returns-in_err-at
returns-in_err-at c =
    passed_is _ _ _ _ c.from_residual-in_err-at.ensures
    (sheet_jobs _ _ _ c.in_ok-declared.ensures _ (c.in_err-at.ensures.0 ∙ from_none _ _ _ _ c.requires))

pub whole-requires : goal.whole-requires
whole-requires c = jobs_lie _ _ _ c.in_ok-declared.ensures _ c.jobs.new.table (c.in_ok-at.ensures.0 ∙ from_none _ _ _ _ c.requires)

pub returns-in_err-whole : goal.returns-in_err-whole
returns-in_err-whole c =
    passed_is _ _ _ _ c.from_residual-in_err-whole.ensures
    (sheet_end _ _ _ c.in_ok-declared.ensures _ c.jobs.new.table (c.in_ok-at.ensures.0 ∙ from_none _ _ _ _ c.requires) _ c.in_err-whole.ensures)

pub overflow_add-at : goal.overflow_add-at
overflow_add-at c =
    let w = end_is _ _ _ c.in_ok-declared.ensures _ c.jobs.new.table (c.in_ok-at.ensures.0 ∙ from_none _ _ _ _ c.requires) _ c.in_ok-whole.ensures in
    omega (arith, w.within, c.well_formed.0)

pub returns-then-at-s : goal.returns-then-at-s
returns-then-at-s c =
    refused_is _ _ _ _ c.refuse.ensures
    (sheet_after _ _ _ c.in_ok-declared.ensures _ c.jobs.new.table (c.in_ok-at.ensures.0 ∙ from_none _ _ _ _ c.requires) _ c.in_ok-whole.ensures c.if-at-s.true)

pub returns : goal.returns
returns c =
    let t = c.in_ok-at.ensures in
    sheet_filled _ _ _ c.in_ok-declared.ensures _ c.jobs.new.table (t.0 ∙ from_none _ _ _ _ c.requires) _ c.in_ok-whole.ensures c.if-at-s.false t.1.0 t.1.1
