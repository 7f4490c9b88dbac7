use native.Mathlib.Omega.{arith}
use Rattle.chain.specs.Layers.{Fewest}
use Rattle.chain.proofs.Chains.{fewest_same, fewest_down, shown_none, shown}
use Rattle.chain.proofs.Paths.show.Goals.{then-first-last, else-first-last+in_ok-links, Joined-first-last}
use Rattle.chain.proofs.Paths.show.Goals as goal

-- where the two ways meet, the links are the fewest
fewest : (c : Joined-first-last) → Fewest c.args.self.clash.now c.args.self.shut c.args.last c.args.first c.if-first-last.layers c.if-first-last.links
fewest c = elim c.if-first-last.branch [
  | then-first-last w ↦ rw (w.layers-is, w.links-is) (fewest_same _ _ _ _ _ w.if-first-last.true)
  | else-first-last+in_ok-links w ↦ rw (w.layers-is, w.links-is) w.in_ok-links.ensures
]

pub returns-in_err-links : goal.returns-in_err-links
returns-in_err-links c =
    rw c.from_residual.ensures (shown_none c.args.self.clash.now c.args.self.shut c.args.first c.args.last c.args.chain.now c.in_err-links.ensures)

pub build-requires : goal.build-requires
build-requires c =
    let few = fewest (goal.at.build-requires c).Joined-first-last in
    record { room = (few.room, omega (arith, few.room)); job = c.requires.0; down = fewest_down _ _ _ _ _ _ few }

pub returns : goal.returns
returns c = shown _ _ _ _ _ _ (fewest (goal.at.returns c).Joined-first-last) _ _ c.build.ensures
