use Prim.Native.Nat.{◌<◌}
use lib.ListN.{length}
use native.Mathlib.Omega.{arith}
use Rattle.theory.specs.Form1.{form1}
use Rattle.verdict.proofs.LowersLaws.{lowering_next, lowest_next, lowering_ends}
use Rattle.verdict.proofs.lowest.find_lowest.Goals as goal

pub loop-j-preserved : goal.loop-j-preserved
loop-j-preserved c =
    let at = c.loop-j in
    let within : at.j < length at.place-items = omega (arith, c.loop-j-test.true, at.auto.place-items) in (
      lowering_next _ _ _ _ _ _ c.from-asked.ensures within at.invariant.0,
      λ js s e. lowest_next form1 js at.place-items at.j _ within (at.invariant.1 js s e) (c.level_of-level.ensures js s (c.needed-ssi.ensures js s e)),
    )

pub returns : goal.returns
returns c = λ js s e. lowering_ends form1 js _ _ _ _ _ e c.requires.1 (omega (arith, c.loop-j-test.false, c.loop-j.auto.place-items)) c.loop-j.invariant.0 (c.loop-j.invariant.1 js s e)
