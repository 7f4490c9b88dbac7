-- Whatever a question's checks meet, the place of the fault is below 65536; and a table that passes them is one that a sheet was read into.
-- Assumes nothing.
use Rattle.std.specs.Prelude.{ℕ, suc, ◌+◌, ◌≤◌, ◌<◌, ◌≡◌, not, List, [], ◌∷◌, ltb, eqb, length, Option, Result, Err}
use Rattle.std.proofs.Common.{subst, arith, eqb-true}
use Rattle.std.proofs.lemmas.Bool.{not-false}
use Rattle.sheet.specs.Step.{Step, ok, fault}
use Rattle.sheet.specs.StepLaws.{Ends, ends_ok, ends_refuse, ends_next}
use Rattle.sheet.specs.Sheet.{sheet_of}
use Rattle.sheet.specs.ReadTable.{ReadTable}
use Rattle.sheet.specs.ReadLaws.{Within, SheetRead, sheet_ends}
use Rattle.sheet.specs.Answer.{fault_of, Answered}
use Rattle.sheet.specs.AnswerLaws.{answer_place}
use Rattle.sheet.specs.Jobs.{jobs_of}
use Rattle.sheet.specs.declared.Refusal.{Refusal}
use Rattle.sheet.specs.declared.ReadAnswer.{ReadAnswer}
use Rattle.sheet.specs.declared.Table.{Table}
use Rattle.theory.specs.Walk as theory
use Rattle.walk.specs.declared.four.Four.{Four}
use Rattle.planner.specs.Checks.{none_above, levels_at, room_at, sheet_with, with_levels, with_room}
use Rattle.planner.specs.Questions.{Answers, Judged, Walks, walk_of, Walked, InBuffer}
use Rattle.planner.specs.declared.Verdict.{Verdict}
use Rattle.planner.specs.declared.WalkAnswer.{WalkAnswer}

-- small enough to stand beside a number in one reply
abbrev pub Near : ℕ → Type 0
Near place = place < 65536

-- an answer whose refusal, if it is one, has such a place
abbrev pub TurnedNear : Result ℕ Refusal → Type 0
TurnedNear a = (r : Refusal) → a ≡ Err r → Near r.place

-- what is asked less of ends as well
ends_less :
    {A : Type 0} (P P' : A → Type 0) (Q Q' : ℕ → Type 0) → ((a : A) → P a → P' a) → ((p : ℕ) → Q p → Q' p)
    → (m : Step A) → Ends P Q m → Ends P' Q' m
unfolding Ends
ends_less P P' Q Q' f g (ok a) h = f a h
ends_less P P' Q Q' f g (fault number place) h = g place h

sheet_near : (s : List ℕ) → Ends ReadTable Near (sheet_of s)
sheet_near s = ends_less (SheetRead s) ReadTable (Within s) Near (λ t h. h.table) (λ p h. omega arith) (sheet_of s) (sheet_ends s)

abbrev Any : Unit {0} → Type 0
Any _ = Unit {0}

none_near : (top i : ℕ) (ls : List ℕ) → i + length ls ≤ 65536 → Ends Any Near (none_above top i ls)
unfolding none_above
none_near top i [] h = ends_ok Any Near tt tt
none_near top i (l ∷ ls) h = ends_refuse Any Near (ltb top l) 14 i _ (omega arith) λ _. none_near top (suc i) ls (omega arith)

levels_near : (jobs : ℕ) (ls : List ℕ) → jobs ≤ 32 → Ends Any Near (levels_at jobs ls)
unfolding levels_at
levels_near jobs ls few =
    ends_refuse Any Near (not (eqb (length ls) jobs)) 13 0 _ (omega arith) λ same.
    let long = eqb-true (length ls) jobs (not-false _ same) in none_near 2 0 ls (omega arith)

room_near : (jobs room : ℕ) → Ends Any Near (room_at jobs room)
unfolding room_at
room_near jobs room = ends_refuse Any Near (ltb room jobs) 15 0 _ (omega arith) λ _. ends_ok Any Near tt tt

sheet_with_near :
    (check : Table → Step (Unit {0})) (s : List ℕ) → ((t : Table) → ReadTable t → Ends Any Near (check t)) → Ends ReadTable Near (sheet_with check s)
unfolding sheet_with
sheet_with_near check s near =
    ends_next ReadTable Near ReadTable (sheet_of s) _ (sheet_near s) λ t known.
    ends_next ReadTable Near Any (check t) _ (near t known) λ _ _. ends_ok ReadTable Near t known

pub with_levels_near : (s ls : List ℕ) → Ends ReadTable Near (with_levels s ls)
with_levels_near s ls = sheet_with_near (λ t. levels_at t.jobs ls) s λ t known. levels_near t.jobs ls known.operations.jobs_most

pub with_room_near : (s : List ℕ) (room : ℕ) → Ends ReadTable Near (with_room s room)
with_room_near s room = sheet_with_near (λ t. room_at t.jobs room) s λ t known. room_near t.jobs room

-- a refusal is the fault that was met, and an accepted answer was asked of what passed
module _ {A B : Type 0} (P : A → Type 0) (Q : ℕ → Type 0) (R : A → B → Type 0) where
  pub refused_at : (x : Step A) (r : Refusal) → Ends P Q x → Answers R x (fault_of r) → Q r.place
  unfolding Ends
  refused_at (ok a) r ends p = absurd p
  refused_at (fault number place) r ends p = rw p.1 at ends

  pub accepted_of : (x : Step A) (b : B) → Ends P Q x → Answers R x (ok b) → (a : A) × P a × R a b
  unfolding Ends
  accepted_of (ok a) b ends p = (a, ends, p)
  accepted_of (fault number place) b ends p = absurd p

-- so the place of every refusal is below 65536
pub read_near : (s : List ℕ) (a : ReadAnswer) (r : Refusal) → Answered s a → a.reading ≡ Err r → Near r.place
read_near s a r h e = omega (arith, answer_place s a h r e)

pub judge_near : (s ls : List ℕ) (v : Result Verdict Refusal) (r : Refusal) → Judged s ls v → v ≡ Err r → Near r.place
judge_near s ls v r h e = refused_at ReadTable Near _ (with_levels s ls) r (with_levels_near s ls) (rw e at h)

pub next_near : (s ls : List ℕ) (above : Four) (a : WalkAnswer) (r : Refusal) → Walked s ls above a → a.walk ≡ Err r → Near r.place
next_near s ls above a r h e =
    let R : Table → theory.Answer → Type 0 = λ t. Walks ls above a (jobs_of t) in
    refused_at ReadTable Near R (with_levels s ls) r (with_levels_near s ls) (subst (λ (w : Result (Option Four) Refusal). Answers R (with_levels s ls) (walk_of w)) e h.outcome)

pub buffer_near :
    (R : Table → (before after : List ℕ) → ℕ → Type 0) (s before after : List ℕ) (a : Result ℕ Refusal)
    → InBuffer R s before after a → TurnedNear a
buffer_near R s before after a h r e =
    refused_at ReadTable Near (λ t. R t before after) (with_room s (length before)) r (with_room_near s (length before)) (rw e at h.outcome)
