use Rattle.chain.proofs.Layers.{Going}
use Rattle.chain.proofs.Paths.count_links.Given as goal

abbrev pub invariant-loop-n : goal.invariant-loop-n
invariant-loop-n l = Going l.self.clash.now l.self.shut l.last l.first l.layers l.n l.seen l.layer
