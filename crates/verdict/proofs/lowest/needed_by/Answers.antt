use native.Mathlib.Omega.{arith}
use Rattle.theory.specs.Form1.{form1}
use Rattle.verdict.proofs.HitLaws.{none_needed, some_needed}
use Rattle.verdict.proofs.lowest.needed_by.Goals as goal

pub returns-then-hit-eq0 : goal.returns-then-hit-eq0
returns-then-hit-eq0 c = λ js s.
    none_needed form1 js s _ _ c.requires (c.paths_of-paths.ensures.shut js _ _ _ _ _ s) _ _ _ c.without-first.ensures c.without-last.ensures
    (rw c.paths_of-paths.ensures.same at c.hit_by-hit.ensures) c.if-hit-eq0.true

pub returns : goal.returns
returns c = λ js s.
    some_needed form1 js s _ _ c.requires (c.paths_of-paths.ensures.shut js _ _ _ _ _ s) _ _ _ c.without-first.ensures c.without-last.ensures
    (rw c.paths_of-paths.ensures.same at c.hit_by-hit.ensures) _ (omega (arith, c.if-hit-eq0.false)) c.hit_by-hit.type_inv c.with.ensures
