use Rattle.jobset.specs.JobsetLaws.{bit_without}
use Rattle.jobset.proofs.without.Goals as goal

pub returns : goal.returns
returns c = bit_without c.args.a c.args.b
