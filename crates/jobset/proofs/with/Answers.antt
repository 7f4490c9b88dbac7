use mathlib.Core.Path.{ap, ◌∙◌}
use Prim.Native.Nat.{ℕ, max}
use Rattle.jobset.specs.Jobset.{bit}
use Rattle.jobset.proofs.with.Goals as goal

pub returns : goal.returns
returns c = λ k. c.union.ensures k ∙ ap (λ (x : ℕ). max (bit c.args.a k) x) (c.single.ensures k)
