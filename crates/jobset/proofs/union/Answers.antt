use Rattle.jobset.specs.JobsetLaws.{bit_or_lem}
use Rattle.jobset.proofs.union.Goals as goal

pub returns : goal.returns
returns c = bit_or_lem c.args.a c.args.b
