-- From what the code has met to what a question promises, one law for each outcome.
-- Assumes nothing.
use Prim.Native.Nat.{ℕ}
use mathlib.Core.Path.{◌≡◌, refl, sym, ap, ◌∙◌}
use mathlib.Core.List.{List, ◌++◌}
use Rattle.std.specs.Prelude.{◌≤◌, Result, Ok, Err}
use native.Mathlib.Omega.{arith}
use lib.ListN.{length, take, drop}
use lib.Seq.{length-take-le, length_front, take_at, drop_at}
use Rattle.sheet.specs.Step.{Step, ok, fault, next}
use Rattle.sheet.specs.Sheet.{sheet_of}
use Rattle.sheet.specs.Answer.{fault_of, Answered}
use Rattle.sheet.specs.AnswerLaws.{answer_read, answer_refused, answer_table}
use Rattle.sheet.specs.declared.Refusal.{Refusal}
use Rattle.sheet.specs.declared.ReadAnswer.{ReadAnswer}
use Rattle.sheet.specs.declared.Table.{Table}
use Rattle.sheet.specs.Jobs.{jobs_of}
use Rattle.sheet.specs.ReadTable.{ReadTable}
use Rattle.conflicts.specs.Laid.{Stands}
use Rattle.conflicts.specs.LaidLaws.{count_read, laid_read, below_read}
use Rattle.planner.proofs.CheckLaws.{passed_length, passed_room}
use Rattle.planner.specs.Checks.{levels_at, room_at, checked_of, checked_with, sheet_with, with_levels, with_room}
use Rattle.planner.specs.Questions.{Answers, Walks, walk_of, Walked, NoChain, InBuffer, Copies}
use Rattle.planner.specs.declared.WalkAnswer.{WalkAnswer}
use Rattle.walk.specs.declared.four.Four.{Four}

module _ {A B : Type 0} (R : A → B → Type 0) (x : Step A) where
  pub answers_refused : (r : Refusal) → x ≡ fault_of r → Answers R x (fault_of r)
  answers_refused r e = rw e (refl, refl)

  pub answers_passed : (a : A) (b : B) → x ≡ ok a → R a b → Answers R x (ok b)
  answers_passed a b e h = rw e h

module _ (check : Table → Step (Unit {0})) where
  -- a sheet with what comes with it: not read, or read and then checked
  module _ (s : List ℕ) (a : ReadAnswer) (h : Answered s a) where
    pub sheet_refused : (r : Refusal) → a.reading ≡ Err r → fault_of r ≡ sheet_with check s
    unfolding sheet_with next
    sheet_refused r e = rw (answer_refused s a h r e) refl

    pub sheet_checked : a.reading ≡ Ok tt → (c : Result (Unit {0}) Refusal) → checked_of c ≡ check a.table → checked_with a.table c ≡ sheet_with check s
    unfolding sheet_with next
    sheet_checked e (Ok _) met = rw (answer_read s a h e, ← met) refl
    sheet_checked e (Err r) met = rw (answer_read s a h e, ← met) refl

  -- what passed has met the check
  module _ (t : Table) where
    check_met : (u : Table) (c : Step (Unit {0})) → c ≡ check u → ok t ≡ next c (λ _. ok u) → ok tt ≡ check t
    unfolding next
    check_met u (ok _) f e = let d : t ≡ u = cc in rw d f
    check_met u (fault n p) f e = absurd (cc)

    sheet_met : (x : Step Table) → ok t ≡ next x (λ u. next (check u) λ _. ok u) → ok tt ≡ check t
    unfolding next
    sheet_met (ok u) e = check_met u (check u) refl e
    sheet_met (fault n p) e = absurd (cc)

-- what a question knows once its sheet is read and what comes with it has passed
pub record Ready (check : Table → Step (Unit {0})) (s : List ℕ) (t : Table) : Type 0 where
  pub passed : sheet_with check s ≡ ok t
  pub known : ReadTable t
  pub met : ok tt ≡ check t

pub ready :
    (check : Table → Step (Unit {0})) (s : List ℕ) (a : ReadAnswer) → Answered s a
    → ((s : List ℕ) → Answered s a → ok a.table ≡ sheet_with check s) → Ready check s a.table
unfolding sheet_with
ready check s a h passes = record {
  passed = sym (passes s h);
  known = answer_table s a h;
  met = sheet_met check a.table (sheet_of s) (passes s h);
}

-- the check of a list of levels, and of an answer buffer of this length
abbrev pub by_levels : List ℕ → Table → Step (Unit {0})
by_levels ls t = levels_at t.jobs ls

abbrev pub by_room : ℕ → Table → Step (Unit {0})
by_room room t = room_at t.jobs room

-- so the table, and what comes with it, are as large as its questions ask
pub levels_asked : (ls s : List ℕ) (t : Table) → Ready (by_levels ls) s t → (t.jobs ≤ 32) × (t.objects ≤ 4096) × (length ls ≡ t.jobs)
levels_asked ls s t r = (r.known.operations.jobs_most, r.known.operations.objects_most, passed_length t.jobs ls r.met)

pub room_asked : (room : ℕ) (s : List ℕ) (t : Table) → Ready (by_room room) s t → (t.jobs ≤ 32) × (t.objects ≤ 4096) × (t.jobs ≤ room)
room_asked room s t r = (r.known.operations.jobs_most, r.known.operations.objects_most, passed_room t.jobs room r.met)

-- the jobs that were read stand in the table's arrays
abbrev pub read_stands : (t : Table) → ReadTable t → Stands t.jobs t.objects t.kind t.object
read_stands t known = record { js = jobs_of t; size = count_read t; below = below_read t known; laid = laid_read t known }

-- the same answer, told of what passed in other words
pub answers_as :
    {A B C : Type 0} (R : A → B → Type 0) (S : C → B → Type 0) (a : A) (c : C) → ((b : B) → R a b → S c b)
    → (y : Step B) → Answers R (ok a) y → Answers S (ok c) y
answers_as R S a c f (ok b) h = f b h
answers_as R S a c f (fault number place) h = absurd h

module _ (s ls : List ℕ) (above : Four) (a : WalkAnswer) where
  pub walk_refused : (r : Refusal) → with_levels s ls ≡ fault_of r → a.walk ≡ Err r → NoChain a → Walked s ls above a
  walk_refused r e f none = record { outcome = rw f (answers_refused _ _ r e); refused = λ _ _. none }

  pub walk_told : (t : Table) → Ready (by_levels ls) s t → Answers (λ js. Walks ls above a js) (ok (jobs_of t)) (walk_of a.walk) → Walked s ls above a
  walk_told t h told = record {
    outcome = rw h.passed (answers_as (λ js. Walks ls above a js) (λ t. Walks ls above a (jobs_of t)) (jobs_of t) t (λ w p. p) (walk_of a.walk) told);
    refused = λ r e. absurd (rw e at told);
  }

-- levels handed out, over what stands in the buffer
module _ (R : Table → (before after : List ℕ) → ℕ → Type 0) (s before : List ℕ) where
  pub buffer_kept : (r : Refusal) → fault_of r ≡ with_room s (length before) → InBuffer R s before before (Err r)
  buffer_kept r e = record { outcome = answers_refused (λ t. R t before before) _ r (sym e); refused = λ _ _. refl }

  pub buffer_filled : (t : Table) → Ready (by_room (length before)) s t → (after : List ℕ) (n : ℕ) → R t before after n → InBuffer R s before after (Ok n)
  buffer_filled t h after n filled = record {
    outcome = answers_passed (λ t. R t before after) _ t n h.passed filled;
    refused = λ r f. absurd (cc);
  }

-- the first bytes of the buffer copied from the levels of the table
pub levels_copied :
    (s : List ℕ) (t : Table) (before after : List ℕ) → Ready (by_room (length before)) s t
    → after ≡ take t.jobs t.level ++ drop t.jobs before → Copies t before after t.jobs
levels_copied s t before after h e = record {
  levels = ap (take t.jobs) e ∙ take_at row (drop t.jobs before) t.jobs long;
  size = ap length e ∙ length_front before row t.jobs (long ∙ sym (length-take-le t.jobs before (passed_room t.jobs (length before) h.met)));
  kept = ap (drop t.jobs) e ∙ drop_at row (drop t.jobs before) t.jobs long;
  number = refl;
}
  where
    row : List ℕ
    row = take t.jobs t.level

    long : length row ≡ t.jobs
    long = length-take-le t.jobs t.level (omega (arith, h.known.level_length, h.known.operations.jobs_most))
