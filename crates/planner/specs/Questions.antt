-- What each question promises, for every sheet, list of levels, four numbers and answer buffer (document 01, "Reasons for turning a
-- call down" to "Lowest levels and the number asked"). The question is checked first; the first fault met is the answer, with its
-- number and place, and otherwise the answer stands in the question's relation to the table that was read.
use Rattle.std.specs.Prelude.{ℕ, ◌≡◌, Bool, true, false, List, length, take, drop, replicate, Option, Result, Err}
use Rattle.theory.specs.Danger.{Jobs}
use Rattle.theory.specs.Form1.{form1}
use Rattle.theory.specs.Lowest.{level}
use Rattle.theory.specs.Planner.{Robust₁, Walks₁}
use Rattle.theory.specs.Walk as theory
use Rattle.sheet.specs.Step.{Step, ok, fault}
use Rattle.sheet.specs.Answer.{step_of}
use Rattle.sheet.specs.Jobs.{jobs_of}
use Rattle.sheet.specs.declared.Refusal.{Refusal}
use Rattle.sheet.specs.declared.Table.{Table}
use Rattle.verdict.specs.Verdict.{Tells, Lowers}
use Rattle.walk.specs.Answers.{named, answered}
use Rattle.walk.specs.ShownIn.{ShownIn}
use Rattle.walk.specs.declared.four.Four.{Four}
use Rattle.planner.specs.Checks.{with_levels, with_room}
use Rattle.planner.specs.declared.Verdict.{Verdict}
use Rattle.planner.specs.declared.Verdict.TheVariants as verdict
use Rattle.planner.specs.declared.WalkAnswer.{WalkAnswer}

-- the answer to a question that was checked: the fault that was met, or a value in the relation R to what passed
abbrev pub Answers : {A B : Type 0} → (A → B → Type 0) → Step A → Step B → Type 0
Answers R (ok a) (ok b) = R a b
Answers R (ok a) (fault number place) = ⊥
Answers R (fault n p) (ok b) = ⊥
Answers R (fault n p) (fault number place) = (n ≡ number) × (p ≡ place)

-- `judge`: robust or not, or the refusal
abbrev pub robust_of : Verdict → Bool
robust_of verdict.Robust = true
robust_of verdict.Dangerous = false

abbrev pub verdict_of : Result Verdict Refusal → Step Bool
verdict_of v = step_of robust_of v

abbrev pub Judged : (s ls : List ℕ) → Result Verdict Refusal → Type 0
Judged s ls v = Answers (λ t. Tells (Robust₁ (jobs_of t) ls)) (with_levels s ls) (verdict_of v)

-- `next_danger`: the first danger above the four numbers, the end, or the refusal
abbrev pub walk_of : Result (Option Four) Refusal → Step theory.Answer
walk_of w = step_of answered w

-- the chain with its pairs stands beside the danger, all numbers from 1, in arrays that were zeros
pub record ChainBeside (js : Jobs form1) (ls : List ℕ) (f : theory.Four) (a : WalkAnswer) : Type 0 where
  pub t1 : ℕ
  pub b1 : ℕ
  pub t2 : ℕ
  pub tm : ℕ
  pub numbers : f ≡ theory.from_one_lem t1 b1 t2 tm
  pub shown : ShownIn js (level ls) t1 b1 t2 tm (replicate 32 0) a.chain (replicate 64 0) a.pairs a.length

-- no chain: zeros
pub record NoChain (a : WalkAnswer) : Type 0 where
  pub length_is : a.length ≡ 0
  pub chain_is : a.chain ≡ replicate 32 0
  pub pairs_are : a.pairs ≡ replicate 64 0

abbrev pub Beside : Jobs form1 → List ℕ → WalkAnswer → theory.Answer → Type 0
Beside js ls a (theory.found f) = ChainBeside js ls f a
Beside js ls a theory.end = NoChain a

abbrev pub Walks : List ℕ → Four → WalkAnswer → Jobs form1 → theory.Answer → Type 0
Walks ls above a js w = Walks₁ js ls (named above) w × Beside js ls a w

pub record Walked (s ls : List ℕ) (above : Four) (a : WalkAnswer) : Type 0 where
  pub outcome : Answers (λ t. Walks ls above a (jobs_of t)) (with_levels s ls) (walk_of a.walk)
  pub refused : (r : Refusal) → a.walk ≡ Err r → NoChain a

-- levels handed out in the answer buffer: a number, or the refusal
abbrev pub handed_of : Result ℕ Refusal → Step ℕ
handed_of a = step_of (λ n. n) a

-- A number, with what stands in the answer buffer afterwards in the relation R to the table that was read; or the refusal, and every
-- byte as found
pub record InBuffer (R : Table → (before after : List ℕ) → ℕ → Type 0) (s before after : List ℕ) (a : Result ℕ Refusal) : Type 0 where
  pub outcome : Answers (λ t. R t before after) (with_room s (length before)) (handed_of a)
  pub refused : (r : Refusal) → a ≡ Err r → after ≡ before

-- `lowest`: the number asked, the lowest levels being in the first bytes of the buffer and the rest as found; or the refusal
abbrev pub LowestHanded : (s before after : List ℕ) → Result ℕ Refusal → Type 0
LowestHanded = InBuffer (λ t. Lowers form1 (jobs_of t))

-- The sheet's own levels stand in the first places, the others are as before, and n is the number of jobs.
pub record Copies (t : Table) (before after : List ℕ) (n : ℕ) : Type 0 where
  pub levels : take t.jobs after ≡ take t.jobs t.level
  pub size : length after ≡ length before
  pub kept : drop t.jobs after ≡ drop t.jobs before
  pub number : n ≡ t.jobs

-- `own_levels`: the number of jobs, the levels that the sheet itself names being in the first bytes of the buffer; or the refusal
abbrev pub LevelsCopied : (s before after : List ℕ) → Result ℕ Refusal → Type 0
LevelsCopied = InBuffer Copies
