use native.Mathlib.Omega.{arith}
use Rattle.planner.proofs.StepLaws.{named_all, danger_at, split_known, danger_in_lem}
use Rattle.planner.proofs.steps.next_of.Goals as goal

pub indices-danger-requires : goal.indices-danger-requires
indices-danger-requires c =
    let k = c.requires.sets_stand in
    named_all k.js _ _ (c.in-Some.ensures k.js k.sets k.size).named

pub bounds-levels-danger : goal.bounds-levels-danger
bounds-levels-danger c =
    let k = c.requires.sets_stand in
    omega (arith, split_known k.js _ _ (c.in-Some.ensures k.js k.sets k.size).named _ c.indices-danger.ensures, k.size)

pub show-n-requires-clause-danger_in : goal.show-n-requires-clause-danger_in
show-n-requires-clause-danger_in c =
    let k = c.requires.sets_stand in
    danger_in_lem _ _ k _ (danger_at k.js _ _ (c.in-Some.ensures k.js k.sets k.size).named _ c.indices-danger.ensures)

pub returns : goal.returns
returns c =
    λ k.
    let i = c.indices-danger.result in
    let next = c.in-Some.ensures k.js k.sets k.size in
    let d = danger_at k.js _ _ next.named i c.indices-danger.ensures in
    (next, record { t1 = i.t1; b1 = i.b1; t2 = i.t2; tm = i.tm; numbers = c.indices-danger.ensures; shown = c.show-n.ensures (danger_in_lem _ _ k i d) })
