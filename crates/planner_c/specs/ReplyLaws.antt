-- How large the numbers are that are replied.
-- Assumes nothing.
use Rattle.std.specs.Prelude.{ℕ, ◌≤◌, ◌<◌, ◌≡◌, not, List, ◌∷◌, eqb, length, Option, Some, Result, Ok}
use Rattle.std.proofs.Common.{subst, arith, lit≤}
use Rattle.theory.specs.Danger.{Jobs, distinct?}
use Rattle.theory.specs.Find.{some?}
use Rattle.theory.proofs.FindLaws.{and_right}
use Rattle.theory.proofs.DistinctLaws.{pigeons}
use Rattle.theory.specs.Form1.{form1}
use Rattle.theory.proofs.PlannerLaws.{asked_within₁}
use Rattle.theory.specs.Walk as theory
use Rattle.sheet.specs.Answer.{number_of, fault_of}
use Rattle.sheet.specs.declared.Reason.{Reason}
use Rattle.sheet.specs.declared.Reason.TheVariants as reason
use Rattle.sheet.specs.declared.Refusal.{Refusal}
use Rattle.sheet.specs.Jobs.{jobs_of}
use Rattle.sheet.specs.JobsLaws.{jobs_length}
use Rattle.sheet.specs.ReadTable.{ReadTable}
use Rattle.sheet.specs.declared.Table.{Table}
use Rattle.verdict.specs.Verdict.{Lowers}
use Rattle.walk.specs.Answers.{named}
use Rattle.walk.specs.declared.four.Four.{Four}
use Rattle.planner.specs.Checks.{with_levels}
use Rattle.planner.specs.Questions.{Answers, ChainBeside, Walks, walk_of, Walked, Copies}
use Rattle.planner.specs.declared.WalkAnswer.{WalkAnswer}
use Rattle.planner_c.specs.Replies.{code_of, Told}
use Rattle.planner_c.specs.PlaceLaws.{Near, with_levels_near, accepted_of}

-- the document's numbers go from 1 to 15
pub number_in : (r : Reason) → (1 ≤ number_of r) × (number_of r ≤ 15)
number_in reason.Short = (lit≤ tt, lit≤ tt)
number_in reason.Tag = (lit≤ tt, lit≤ tt)
number_in reason.Length = (lit≤ tt, lit≤ tt)
number_in reason.Form = (lit≤ tt, lit≤ tt)
number_in reason.Jobs = (lit≤ tt, lit≤ tt)
number_in reason.Objects = (lit≤ tt, lit≤ tt)
number_in reason.Level = (lit≤ tt, lit≤ tt)
number_in reason.Count = (lit≤ tt, lit≤ tt)
number_in reason.Kind = (lit≤ tt, lit≤ tt)
number_in reason.Object = (lit≤ tt, lit≤ tt)
number_in reason.Twice = (lit≤ tt, lit≤ tt)
number_in reason.After = (lit≤ tt, lit≤ tt)
number_in reason.LevelsLength = (lit≤ tt, lit≤ tt)
number_in reason.LevelsLevel = (lit≤ tt, lit≤ tt)
number_in reason.Room = (lit≤ tt, lit≤ tt)

-- number and place are read off the code
pub code_told : (A : Type 0) (r : Refusal) → r.place < 65536 → Told {A = A} (fault_of r) (code_of r)
code_told A r h = let n = number_in r.reason in (omega arith, omega arith, omega arith)

jobs_few : (t : Table) → ReadTable t → length (jobs_of t) ≤ 32
jobs_few t known = omega (arith, jobs_length t.count t.kind t.object t.jobs, known.operations.jobs_most)

-- the jobs of a chain are distinct jobs of the sheet
chain_few : (js : Jobs form1) (ls : List ℕ) (f : theory.Four) (a : WalkAnswer) → ChainBeside js ls f a → (1 ≤ a.length) × (a.length ≤ length js)
chain_few js ls f a h =
    let c = h.shown.shown.jobs.chain in
    let row = h.t2 ∷ h.shown.rest in
    let few = pigeons (length js) row (and_right (not (some? (eqb h.t1) row)) (distinct? row) c.distinct) c.known in
    (omega (arith, h.shown.count), omega (arith, h.shown.count))

pub next_few : (s ls : List ℕ) (above : Four) (a : WalkAnswer) (f : Four) → Walked s ls above a → a.walk ≡ Ok (Some f) → (1 ≤ a.length) × (a.length ≤ 32)
next_few s ls above a f h e =
    let R : Table → theory.Answer → Type 0 = λ t. Walks ls above a (jobs_of t) in
    let o = accepted_of ReadTable Near R (with_levels s ls) (theory.found (named f)) (with_levels_near s ls)
    (subst (λ (w : Result (Option Four) Refusal). Answers R (with_levels s ls) (walk_of w)) e h.outcome) in
    let few = chain_few (jobs_of o.0) ls (named f) a o.2.1 in
    (few.0, omega (arith, jobs_few o.0 o.1))

module _ (t : Table) (known : ReadTable t) (before after : List ℕ) (n : ℕ) where
  pub lowest_few : Lowers form1 (jobs_of t) before after n → n < 65536
  lowest_few h = omega (arith, asked_within₁ (jobs_of t) n (jobs_few t known) h.number)

  pub levels_few : Copies t before after n → n < 65536
  levels_few h = omega (arith, h.number, known.operations.jobs_most)
