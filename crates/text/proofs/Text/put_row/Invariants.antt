use Rattle.text.proofs.LineLaws.{Begun}
use Rattle.text.proofs.Text.put_row.Given as goal

abbrev pub invariant-loop-n : goal.invariant-loop-n
invariant-loop-n l = Begun l.numbers l.n-index l.initial.self l.self
