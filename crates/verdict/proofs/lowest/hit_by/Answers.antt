use Rattle.verdict.proofs.HitLaws.{no_hit, hit_means}
use Rattle.verdict.proofs.lowest.hit_by.Goals as goal

pub returns-then-first-eq0 : goal.returns-then-first-eq0
returns-then-first-eq0 c = no_hit _ _ _ _ c.then-first-eq0.either

pub returns : goal.returns
returns c =
    hit_means
    _ _ _ _ _ _ _ _ _ _ _ _ _
    c.without.ensures
    c.spread.ensures
    c.intersect-lasts.ensures
    c.without-2.ensures
    c.spread-2.ensures
    c.intersect-firsts.ensures
    c.intersect.ensures
    c.union.ensures
    c.union-2.ensures
