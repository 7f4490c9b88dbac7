use Rattle.splits.proofs.CloseLaws.{closed_low, closed_high}
use Rattle.splits.proofs.split.closed_from_start.Goals as goal

pub returns-then-level-ge1 : goal.returns-then-level-ge1
returns-then-level-ge1 c = λ k. closed_high _ c.args.level _ _ k c.if-level-ge1.true (c.with.ensures k)

pub returns-else-level-ge1 : goal.returns-else-level-ge1
returns-else-level-ge1 c = λ k. closed_low _ c.args.level _ _ k c.if-level-ge1.false (c.single.ensures k)
