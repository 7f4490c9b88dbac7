use mathlib.Core.Path.{◌≡◌}
use lib.ListN.{length}
use Rattle.walk.specs.ShownIn.{ToPair}
use Rattle.walk.proofs.PairsLaws.{Going}
use Rattle.walk.proofs.shown.write_pairs.Given as goal

abbrev pub invariant-loop-at : goal.invariant-loop-at
invariant-loop-at l =
    (length l.initial.pairs ≡ 64) × ((w : ToPair l.sets.table.now.kind l.sets.table.now.object l.chain l.level l.t1 l.b1 l.t2) → Going w l.at l.from l.initial.pairs l.pairs)
