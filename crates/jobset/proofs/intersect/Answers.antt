use Rattle.jobset.specs.JobsetLaws.{bit_and_lem}
use Rattle.jobset.proofs.intersect.Goals as goal

pub returns : goal.returns
returns c = bit_and_lem c.args.a c.args.b
