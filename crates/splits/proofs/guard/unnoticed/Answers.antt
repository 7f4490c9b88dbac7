use mathlib.Core.Path.{ap, ◌∙◌}
use Prim.Native.Nat.{ℕ, ◌-◌}
use Rattle.jobset.specs.Jobset.{bit}
use Rattle.splits.proofs.guard.unnoticed.Goals as goal

pub returns : goal.returns
returns c = λ k. c.without.ensures k ∙ ap (λ (x : ℕ). bit c.args.set k - x) (c.intersect.ensures k)
