-- What document 01 says of the pair that leaves T1 ("The walk and the chain shown"), of every answer of `next_danger` that shows a danger.
-- Assumes nothing.
use Rattle.std.specs.Prelude.{ℕ, suc, ◌-◌, ◌≡◌, List, [], ◌∷◌, ◌++◌, get_or, Option, Some, Result, Ok}
use Rattle.std.proofs.Common.{sym, ap, subst, ◌∙◌, arith}
use Rattle.theory.specs.Danger.{Jobs, job}
use Rattle.theory.specs.Form1.{form1}
use Rattle.theory.proofs.Form1Laws.{OnlyWrite, only_write}
use Rattle.theory.specs.Lowest.{level}
use Rattle.theory.specs.Shown.{Leaves, Pairs}
use Rattle.theory.specs.Walk as theory
use Rattle.sheet.specs.Step.{Step, ok, fault, next}
use Rattle.sheet.specs.Sheet.{sheet_of}
use Rattle.sheet.specs.Jobs.{jobs_of}
use Rattle.sheet.specs.ReadLaws.{sheet_read}
use Rattle.sheet.specs.declared.Refusal.{Refusal}
use Rattle.sheet.specs.declared.Table.{Table}
use Rattle.conflicts.specs.LaidLaws.{writes_once}
use Rattle.walk.specs.Answers.{named}
use Rattle.walk.specs.ShownIn.{pair_row}
use Rattle.walk.specs.declared.four.Four.{Four}
use Rattle.planner.specs.Checks.{levels_at, sheet_with, with_levels}
use Rattle.planner.specs.Questions.{Answers, Walks, walk_of, ChainBeside, Walked}
use Rattle.planner.specs.declared.WalkAnswer.{WalkAnswer}

-- the first pair of a chain's, as it stands in the array
record First (js : Jobs form1) (lv : ℕ → ℕ) (t1 b1 t2 : ℕ) (pairs : List ℕ) : Type 0 where
  earlier : get_or pairs 0 0 ≡ suc b1
  a2 : ℕ
  later : get_or pairs 1 0 ≡ suc a2
  leaves : Leaves form1 js lv t1 b1 t2 b1 a2

first : (js : Jobs form1) (lv : ℕ → ℕ) (t1 b1 t2 : ℕ) (rest : List ℕ) (ps : List (ℕ × ℕ)) (pairs beyond : List ℕ) → Pairs form1 js lv t1 b1 t2 rest ps → pairs ≡ pair_row ps ++ beyond → First js lv t1 b1 t2 pairs
first js lv t1 b1 t2 rest [] pairs beyond w e = absurd w
first js lv t1 b1 t2 rest (p ∷ ps) pairs beyond w e = record {
  earlier = rw e (ap suc w.0.fits.0);
  a2 = p.1;
  later = rw e;
  leaves = rw w.0.fits.0 at w.0.fits;
}

module _ (s ls : List ℕ) (above : Four) (a : WalkAnswer) (h : Walked s ls above a) (t : Table) (read : sheet_of s ≡ ok t) (f : Four) (found : a.walk ≡ Ok (Some f)) where
  abbrev Told : Step Table → Step theory.Answer → Type 0
  Told = Answers (λ t. Walks ls above a (jobs_of t))

  beside : ChainBeside (jobs_of t) ls (named f) a
  unfolding sheet_with next
  beside = cases (levels_at t.jobs ls) (rw read at (subst (λ (w : Result (Option Four) Refusal). Told (with_levels s ls) (walk_of w)) found h.outcome))
    where
      cases : (c : Step (Unit {0})) → Told (next c λ _. ok t) (ok (theory.found (named f))) → ChainBeside (jobs_of t) ls (named f) a
      cases (ok _) told = told.1
      cases (fault number place) told = absurd told

  -- The pair that leaves T1 shows b1 and a2, and a2 is the only write of b1's object in T2: any operation of T2 that writes it is a2. The
  -- numbers that are shown count from 1, the jobs and operations of the definitions from 0.
  pub first_pair :
      (get_or a.pairs 0 0 ≡ f.b1)
      × OnlyWrite (job form1 (jobs_of t) (f.t2 - 1)) (get_or (job form1 (jobs_of t) (f.t1 - 1)) (f.b1 - 1) (0, 0)).1 (get_or a.pairs 1 0 - 1)
  first_pair =
      let b = beside in
      let p = first (jobs_of t) (level ls) b.t1 b.b1 b.t2 b.shown.rest b.shown.ps a.pairs _ b.shown.shown.pairs b.shown.operations in
      let split : f.t1 - 1 ≡ b.t1 = omega (arith, ap (λ (g : theory.Four). g.t1) b.numbers) in
      let operation : f.b1 - 1 ≡ b.b1 = omega (arith, ap (λ (g : theory.Four). g.b1) b.numbers) in
      let other : f.t2 - 1 ≡ b.t2 = omega (arith, ap (λ (g : theory.Four). g.t2) b.numbers) in
      let a2 : get_or a.pairs 1 0 - 1 ≡ p.a2 = omega (arith, p.later) in (
        p.earlier ∙ sym (ap (λ (g : theory.Four). g.b1) b.numbers),
        rw (split, operation, other, a2)
            (only_write (jobs_of t) (level ls) b.t1 b.b1 b.t2 b.b1 p.a2 (writes_once t (sheet_read s t read).table b.t2) p.leaves),
      )
