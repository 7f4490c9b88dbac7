-- An empty set has no job, and a word's jobs are below 32.
use native.Mathlib.Omega.{arith}
use borrow.Author.Tests.{eq-eqb, ne_eqb}
use Rattle.jobset.specs.JobsetLaws.{member_below, member_pos}
use Rattle.walk.proofs.sides.end_of.Goals as goal

pub returns-then-m-eq0 : goal.returns-then-m-eq0
returns-then-m-eq0 c = (omega arith, λ k e. omega (arith, member_pos c.args.m k e, c.if-m-eq0.true), simp (eq-eqb _ _ c.if-m-eq0.true))

pub returns-else-m-eq0 : goal.returns-else-m-eq0
returns-else-m-eq0 c = (omega arith, λ k e. member_below 32 _ k (omega arith) e, simp (ne_eqb _ _ c.if-m-eq0.false))
