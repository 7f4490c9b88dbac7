use Rattle.jobset.specs.JobsetLaws.{bit_single}
use Rattle.jobset.proofs.single.Goals as goal

pub returns : goal.returns
returns c = bit_single c.args.i c.requires
