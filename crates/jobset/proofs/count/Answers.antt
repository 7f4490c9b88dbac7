use Rattle.jobset.specs.SizeLaws.{ones_size}
use Rattle.jobset.proofs.count.Goals as goal

pub returns : goal.returns
returns c = ones_size 32 c.args.m c.ranges.m.fits
