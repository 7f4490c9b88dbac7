-- From the danger that the walk finds to what the chain shown asks, and to the chain shown beside it.
-- Assumes nothing.
use Prim.Native.Nat.{ℕ, ◌<◌}
use mathlib.Core.Path.{◌≡◌, refl, sym, ap, subst, ◌∙◌}
use mathlib.Core.List.{List}
use Rattle.std.specs.Prelude.{Option, None, Some, Result, Ok}
use Rattle.std.proofs.Math.Nat.{suc_inj}
use Rattle.sheet.specs.Step.{ok}
use Rattle.sheet.specs.declared.Refusal.{Refusal}
use Rattle.sheet.specs.declared.Table.{Table}
use native.Mathlib.Omega.{arith}
use denote.Bor.{Bor}
use lib.ListN.{length, get_or, replicate}
use Rattle.theory.specs.Danger.{Jobs}
use Rattle.theory.specs.Form1.{form1}
use Rattle.theory.specs.Guards.{Paper}
use Rattle.theory.proofs.KnownLaws.{t1_known}
use Rattle.theory.specs.Lowest.{level}
use Rattle.theory.specs.Planner.{Danger₁, Names₁, Walks₁}
use Rattle.theory.specs.Walk as theory
use Rattle.conflicts.specs.Laid.{Stands}
use Rattle.conflicts.specs.SetsFound.{SetsFound}
use Rattle.conflicts.specs.declared.sets.Sets as declared
use Rattle.walk.specs.Answers.{named, answered}
use Rattle.walk.specs.ShownIn.{DangerIn, ShownIn}
use Rattle.walk.specs.declared.four.Four.{Four}
use Rattle.walk.specs.declared.four.Indices.{Indices}
use Rattle.planner.specs.Questions.{Answers, Walks, walk_of, NoChain}
use Rattle.planner.specs.Stands.{SetsStand}
use Rattle.planner.specs.declared.WalkAnswer.{WalkAnswer}

-- four numbers that name a danger
abbrev pub NamesIn : Jobs form1 → List ℕ → Four → Type 0
NamesIn js ls f = Names₁ js ls (named f)

module _ (js : Jobs form1) (ls : List ℕ) (above : Four) where
  pub found_danger : (r : Option Four) (f : Four) → r ≡ Some f → Walks₁ js ls (named above) (answered r) → NamesIn js ls f
  found_danger r f e w = (rw e at w).named

module _ (js : Jobs form1) (ls : List ℕ) (f : Four) (n : NamesIn js ls f) where
  -- each is at least 1
  pub named_all : (0 < f.t1) × (0 < f.b1) × (0 < f.t2) × (0 < f.tm)
  named_all = (
    omega (arith, ap (λ (g : theory.Four). g.t1) n.4),
    omega (arith, ap (λ (g : theory.Four). g.b1) n.4),
    omega (arith, ap (λ (g : theory.Four). g.t2) n.4),
    omega (arith, ap (λ (g : theory.Four). g.tm) n.4),
  )

  -- the danger by the same numbers from 0
  module _ (i : Indices) (e : named f ≡ theory.from_one_lem i.t1 i.b1 i.t2 i.tm) where
    pub danger_at : Danger₁ js ls i.t1 i.b1 i.t2 i.tm
    danger_at =
        let same : theory.from_one_lem n.0 n.1 n.2 n.3 ≡ theory.from_one_lem i.t1 i.b1 i.t2 i.tm = sym n.4 ∙ e in
        let split : n.0 ≡ i.t1 = suc_inj (ap (λ (g : theory.Four). g.t1) same) in
        let operation : n.1 ≡ i.b1 = suc_inj (ap (λ (g : theory.Four). g.b1) same) in
        let first : n.2 ≡ i.t2 = suc_inj (ap (λ (g : theory.Four). g.t2) same) in
        let last : n.3 ≡ i.tm = suc_inj (ap (λ (g : theory.Four). g.tm) same) in
        rw (← split, ← operation, ← first, ← last) n.5

    pub split_known : i.t1 < length js
    split_known = t1_known form1 (Paper form1) js danger_at

-- the sets that `find` has found of a table
abbrev pub found_stand :
    (s : declared.Sets) (t : Bor Table) → s.table ≡ t → (k : Stands t.now.jobs t.now.objects t.now.kind t.now.object)
    → SetsFound k.js s.table.now.kind s.table.now.object s.writers s.ww s.rw s.wr s.clash → SetsStand s
found_stand s t same k found = record { js = k.js; size = rw same k.size; laid = rw same k.laid; sets = found.sets }

-- what the chain shown asks
abbrev pub danger_in_lem :
    (s : declared.Sets) (ls : List ℕ) (k : SetsStand s) (i : Indices) → Danger₁ k.js ls i.t1 i.b1 i.t2 i.tm
    → DangerIn s.table.now.kind s.table.now.object s.clash (get_or ls i.t1 0) i.t1 i.b1 i.t2 i.tm
danger_in_lem s ls k i d = record {
  js = k.js;
  lv = level ls;
  writers = s.writers;
  ww = s.ww;
  rw = s.rw;
  wr = s.wr;
  laid = k.laid;
  sets = k.sets;
  same_level = refl;
  danger = d;
}

-- what a step answers: the end, or a danger with the chain shown
module _ (js : Jobs form1) (ls : List ℕ) (above : Four) (a : WalkAnswer) where
  abbrev Told : Result (Option Four) Refusal → Type 0
  Told w = Answers (λ js. Walks ls above a js) (ok js) (walk_of w)

  pub step_end : (r : Option Four) → r ≡ None → Walks₁ js ls (named above) (answered r) → a.walk ≡ Ok None → NoChain a → Told a.walk
  step_end r e w f none = subst Told (sym f) (rw e at w, none)

  pub step_found :
      (r : Option Four) (f : Four) → r ≡ Some f → Walks₁ js ls (named above) (answered r) → a.walk ≡ Ok (Some f)
      → (i : Indices) → named f ≡ theory.from_one_lem i.t1 i.b1 i.t2 i.tm
      → ShownIn js (level ls) i.t1 i.b1 i.t2 i.tm (replicate 32 0) a.chain (replicate 64 0) a.pairs a.length
      → Told a.walk
  step_found r f e w g i n h = subst Told (sym g) (rw e at w, record { t1 = i.t1; b1 = i.b1; t2 = i.t2; tm = i.tm; numbers = n; shown = h })
