use Rattle.text.proofs.PutLaws.{puts_append}
use Rattle.text.proofs.NumberLaws.{decimal_one, decimal_more}
use Rattle.text.proofs.Text.+put_number.Goals as goal

pub returns-then-n-lt10 : goal.returns-then-n-lt10
returns-then-n-lt10 t c = rw (decimal_one _ c.if-n-lt10.true) c.put.ensures

pub returns : goal.returns
returns t c =
    rw (decimal_more c.args.n c.if-n-lt10.false c.ranges.n.fits) (puts_append _ _ c.put_number.ensures c.put-2.ensures)
