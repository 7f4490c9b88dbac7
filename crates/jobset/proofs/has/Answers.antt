use mathlib.Core.Path.{refl}
use Rattle.jobset.specs.Jobset.{bit}
use Rattle.jobset.proofs.has.Goals as goal

pub returns : goal.returns
unfolding bit
returns c = refl
