use mathlib.Core.Path.{sym, ◌∙◌}
use Rattle.planner.proofs.CheckLaws.{above_at, above_none, wrong_length, right_length}
use Rattle.planner.proofs.levels.check_levels.Goals as goal

pub returns-then-levels-jobs : goal.returns-then-levels-jobs
returns-then-levels-jobs c = sym (wrong_length _ _ c.if-levels-jobs.true)

pub returns-in-Some : goal.returns-in-Some
returns-in-Some c = sym (right_length _ _ c.if-levels-jobs.false ∙ above_at 2 0 _ _ (sym c.in-Some.ensures))

pub returns-in-None : goal.returns-in-None
returns-in-None c = sym (right_length _ _ c.if-levels-jobs.false ∙ above_none 2 0 _ (sym c.in-None.ensures))
