use mathlib.Core.Path.{sym, ◌∙◌}
use Rattle.splits.proofs.GuardLaws.{beside_watched, beside_free}
use Rattle.splits.proofs.guard.beside.Goals as goal

pub returns-then-has : goal.returns-then-has
returns-then-has c = λ k. c.without.ensures k ∙ beside_watched _ _ _ (sym c.has.ensures ∙ c.if-has.true) k

pub returns-else-has : goal.returns-else-has
returns-else-has c = beside_free _ _ _ (sym c.has.ensures ∙ c.if-has.false)
