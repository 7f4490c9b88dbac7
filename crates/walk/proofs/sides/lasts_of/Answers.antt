-- The spread from f has the last jobs that are joined with it.
use mathlib.Core.Path.{sym, ◌∙◌}
use Rattle.walk.proofs.SidesLaws.{lasts_none, lasts_some}
use Rattle.walk.proofs.sides.lasts_of.Goals as goal

pub returns-then-has : goal.returns-then-has
returns-then-has c =
    let in-firsts = c.if-has.true in
    lasts_some _ _ _ _ _ _ _ _ _ _ (sym c.has.ensures ∙ in-firsts)
    c.beside-left.ensures c.single.ensures c.spread.ensures c.intersect.ensures

pub returns-else-has : goal.returns-else-has
returns-else-has c = lasts_none _ _ _ _ _ _ (sym c.has.ensures ∙ c.if-has.false)
