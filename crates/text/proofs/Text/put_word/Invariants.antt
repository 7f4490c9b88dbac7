use Rattle.std.proofs.Common.{take}
use Rattle.text.specs.Text.{Puts}
use Rattle.text.proofs.Text.put_word.Given as goal

abbrev pub invariant-loop-b : goal.invariant-loop-b
invariant-loop-b l = Puts l.initial.self (take l.b-index l.word) l.self
