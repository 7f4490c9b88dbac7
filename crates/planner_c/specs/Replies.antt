-- What the functions for C reply: one number, and the bytes of what was lent. An accepted answer is below 65536; a refusal is its number
-- times 65536 and its place (document 01, "Reasons for turning a call down").
use Rattle.std.specs.Prelude.{ℕ, ◌+◌, ◌*◌, ◌/◌, ◌%◌, ◌≤◌, ◌<◌, ◌≡◌, List, ◌∷◌, ◌++◌, replicate, Option, Some, None, Result, Ok, Err}
use Rattle.sheet.specs.Step.{Step, ok, fault}
use Rattle.sheet.specs.Answer.{number_of, Answered}
use Rattle.sheet.specs.declared.Refusal.{Refusal}
use Rattle.sheet.specs.declared.ReadAnswer.{ReadAnswer}
use Rattle.walk.specs.declared.four.Four.{Four}
use Rattle.planner.specs.Questions.{Judged, Walked, LowestHanded, LevelsCopied}
use Rattle.planner.specs.declared.Verdict.{Verdict}
use Rattle.planner.specs.declared.Verdict.TheVariants as verdict
use Rattle.planner.specs.declared.WalkAnswer.{WalkAnswer}

abbrev pub code_of : Refusal → ℕ
code_of r = number_of r.reason * 65536 + r.place

-- `planner_read`
abbrev pub read_code : Result (Unit {0}) Refusal → ℕ
read_code (Ok _) = 0
read_code (Err r) = code_of r

pub record ReadReply (s : List ℕ) (n : ℕ) : Type 0 where
  pub answer : ReadAnswer
  pub answered : Answered s answer
  pub reply : n ≡ read_code answer.reading

-- `planner_judge`
abbrev pub judge_code : Result Verdict Refusal → ℕ
judge_code (Ok verdict.Robust) = 1
judge_code (Ok verdict.Dangerous) = 0
judge_code (Err r) = code_of r

pub record JudgeReply (s ls : List ℕ) (n : ℕ) : Type 0 where
  pub verdict : Result Verdict Refusal
  pub judged : Judged s ls verdict
  pub reply : n ≡ judge_code verdict

-- `planner_next`: the number of jobs in the chain shown
abbrev pub step_code : Result (Option Four) Refusal → ℕ → ℕ
step_code (Ok (Some f)) jobs = jobs
step_code (Ok None) jobs = 0
step_code (Err r) jobs = code_of r

abbrev pub walk_code : WalkAnswer → ℕ
walk_code a = step_code a.walk a.length

-- the bytes of `found`: the danger's four numbers, the chain, the pairs, zeros to 128 bytes; as they were where no danger is shown
abbrev pub step_bytes : Result (Option Four) Refusal → (chain pairs before : List ℕ) → List ℕ
step_bytes (Ok (Some f)) chain pairs before = f.t1 ∷ f.b1 ∷ f.t2 ∷ f.tm ∷ (chain ++ pairs ++ replicate 28 0)
step_bytes (Ok None) chain pairs before = before
step_bytes (Err r) chain pairs before = before

abbrev pub found_in : WalkAnswer → List ℕ → List ℕ
found_in a before = step_bytes a.walk a.chain a.pairs before

pub record NextReply (s ls : List ℕ) (above : Four) (before after : List ℕ) (n : ℕ) : Type 0 where
  pub answer : WalkAnswer
  pub walked : Walked s ls above answer
  pub reply : n ≡ walk_code answer
  pub bytes : after ≡ found_in answer before

-- a question that hands out levels in the answer buffer, over its promise
abbrev pub handed_code_lem : Result ℕ Refusal → ℕ
handed_code_lem (Ok n) = n
handed_code_lem (Err r) = code_of r

pub record HandedReply (Promise : (s before after : List ℕ) → Result ℕ Refusal → Type 0) (s before after : List ℕ) (n : ℕ) : Type 0 where
  pub handed : Result ℕ Refusal
  pub promised : Promise s before after handed
  pub reply : n ≡ handed_code_lem handed

-- `planner_lowest`: the number asked
abbrev pub LowestReply : (s before after : List ℕ) → ℕ → Type 0
LowestReply = HandedReply LowestHanded

-- `planner_levels`: the number of jobs
abbrev pub LevelsReply : (s before after : List ℕ) → ℕ → Type 0
LevelsReply = HandedReply LevelsCopied

-- what a caller learns of the checks from a reply alone: passed, or the fault's number and place
abbrev pub Told : {A : Type 0} → Step A → ℕ → Type 0
Told (ok a) n = n < 65536
Told (fault number place) n = (65536 ≤ n) × (n / 65536 ≡ number) × (n % 65536 ≡ place)
