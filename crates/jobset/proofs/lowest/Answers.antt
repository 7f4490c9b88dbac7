use Rattle.jobset.specs.JobsetLaws.{trailing_lowest}
use Rattle.jobset.proofs.lowest.Goals as goal

pub returns : goal.returns
returns c = trailing_lowest 32 c.args.m c.requires c.ranges.m.fits
