-- Each statement settles its reply and the lent bytes (document 01, "How firmly each call is tied down"), and a caller tells an accepted
-- answer from a refusal, with its number and place, by the reply alone.
-- Assumes nothing.
use Rattle.std.specs.Prelude.{ℕ, ◌≤◌, ◌<◌, ◌≡◌, refl, Bool, List, length, Option, Some, None, Result, Ok, Err}
use Rattle.std.proofs.Common.{sym, ap, ◌∙◌, arith, lit<}
use Rattle.theory.specs.Form1.{form1}
use Rattle.theory.specs.Walk as theory
use Rattle.sheet.specs.Step.{Step, ok, fault}
use Rattle.sheet.specs.Sheet.{sheet_of}
use Rattle.sheet.specs.Answer.{reading_of}
use Rattle.sheet.specs.AnswerLaws.{settled}
use Rattle.sheet.specs.Jobs.{jobs_of}
use Rattle.sheet.specs.ReadTable.{ReadTable}
use Rattle.sheet.specs.declared.Refusal.{Refusal}
use Rattle.sheet.specs.declared.ReadAnswer.{ReadAnswer}
use Rattle.sheet.specs.declared.Table.{Table}
use Rattle.verdict.specs.Verdict.{Lowers}
use Rattle.walk.specs.declared.four.Four.{Four}
use Rattle.planner.specs.Checks.{with_levels, with_room}
use Rattle.planner.specs.Questions.{Answers, verdict_of, walk_of, handed_of, InBuffer, LowestHanded, Copies, LevelsCopied}
use Rattle.planner.proofs.Settled as questions
use Rattle.planner.specs.declared.Verdict.{Verdict}
use Rattle.planner.specs.declared.Verdict.TheVariants as verdict
use Rattle.planner.specs.declared.WalkAnswer.{WalkAnswer}
use Rattle.planner_c.specs.Replies.{read_code, ReadReply, judge_code, JudgeReply, step_code, walk_code, found_in, NextReply, handed_code_lem, HandedReply, LowestReply, LevelsReply, Told}
use Rattle.planner_c.specs.ReplyLaws.{number_in, code_told, next_few, lowest_few, levels_few}
use Rattle.planner_c.specs.PlaceLaws.{Near, with_room_near, accepted_of, read_near, judge_near, next_near, buffer_near}

-- two replies to one question are equal, and so are the lent bytes afterwards
pub read_settled : (s : List ℕ) (n m : ℕ) → ReadReply s n → ReadReply s m → n ≡ m
read_settled s n m p q =
    p.reply ∙ ap (λ (a : ReadAnswer). read_code a.reading) (settled s p.answer q.answer p.answered q.answered) ∙ sym q.reply

pub judge_settled : (s ls : List ℕ) (n m : ℕ) → JudgeReply s ls n → JudgeReply s ls m → n ≡ m
judge_settled s ls n m p q =
    p.reply ∙ ap judge_code (questions.judge_settled s ls p.verdict q.verdict p.judged q.judged) ∙ sym q.reply

pub next_settled :
    (s ls : List ℕ) (above : Four) (before x y : List ℕ) (n m : ℕ)
    → NextReply s ls above before x n → NextReply s ls above before y m → (n ≡ m) × (x ≡ y)
next_settled s ls above before x y n m p q =
    let one = questions.walk_settled s ls above p.answer q.answer p.walked q.walked in
    (p.reply ∙ ap walk_code one ∙ sym q.reply, p.bytes ∙ ap (λ (a : WalkAnswer). found_in a before) one ∙ sym q.bytes)

handed_settled :
    (P : (s before after : List ℕ) → Result ℕ Refusal → Type 0)
    → ((s before x y : List ℕ) (a b : Result ℕ Refusal) → P s before x a → P s before y b → (a ≡ b) × (x ≡ y))
    → (s before x y : List ℕ) (n m : ℕ) → HandedReply P s before x n → HandedReply P s before y m → (n ≡ m) × (x ≡ y)
handed_settled P once s before x y n m p q =
    let one = once s before x y p.handed q.handed p.promised q.promised in
    (p.reply ∙ ap handed_code_lem one.0 ∙ sym q.reply, one.1)

pub lowest_settled : (s before x y : List ℕ) (n m : ℕ) → LowestReply s before x n → LowestReply s before y m → (n ≡ m) × (x ≡ y)
lowest_settled = handed_settled LowestHanded questions.lowest_settled

pub levels_settled : (s before x y : List ℕ) (n m : ℕ) → LevelsReply s before x n → LevelsReply s before y m → (n ≡ m) × (x ≡ y)
levels_settled = handed_settled LevelsCopied questions.levels_settled

-- an answer tells of the checks what it says itself
told : {A B : Type 0} (R : A → B → Type 0) (x : Step A) (y : Step B) (n : ℕ) → Answers R x y → Told y n → Told x n
told R (ok a) (ok b) n p h = h
told R (ok a) (fault number place) n p h = absurd p
told R (fault k l) (ok b) n p h = absurd p
told R (fault k l) (fault number place) n p h = rw (p.0, p.1) h

pub read_told : (s : List ℕ) (n : ℕ) → ReadReply s n → Told (sheet_of s) n
read_told s n p = rw (p.reply, ← p.answered.outcome) (cases p.answer.reading (λ r e. read_near s p.answer r p.answered e))
  where
    cases : (g : Result (Unit {0}) Refusal) → ((r : Refusal) → g ≡ Err r → Near r.place) → Told (reading_of g p.answer.table) (read_code g)
    cases (Ok _) near = lit< tt
    cases (Err r) near = code_told Table r (near r refl)

pub judge_told : (s ls : List ℕ) (n : ℕ) → JudgeReply s ls n → Told (with_levels s ls) n
judge_told s ls n p =
    rw p.reply
    (told _ (with_levels s ls) (verdict_of p.verdict) (judge_code p.verdict) p.judged
    (cases p.verdict (λ r e. judge_near s ls p.verdict r p.judged e)))
  where
    cases : (v : Result Verdict Refusal) → ((r : Refusal) → v ≡ Err r → Near r.place) → Told (verdict_of v) (judge_code v)
    cases (Ok verdict.Robust) near = lit< tt
    cases (Ok verdict.Dangerous) near = lit< tt
    cases (Err r) near = code_told Bool r (near r refl)

pub next_told : (s ls : List ℕ) (above : Four) (before after : List ℕ) (n : ℕ) → NextReply s ls above before after n → Told (with_levels s ls) n
next_told s ls above before after n p =
    let a = p.answer in
    rw p.reply
    (told _ (with_levels s ls) (walk_of a.walk) (walk_code a) p.walked.outcome
    (cases a.walk a.length (λ f e. next_few s ls above a f p.walked e) (λ r e. next_near s ls above a r p.walked e)))
  where
    cases :
        (w : Result (Option Four) Refusal) (k : ℕ) → ((f : Four) → w ≡ Ok (Some f) → (1 ≤ k) × (k ≤ 32)) → ((r : Refusal) → w ≡ Err r → Near r.place)
        → Told (walk_of w) (step_code w k)
    cases (Ok (Some f)) k few near = omega (arith, few f refl)
    cases (Ok None) k few near = lit< tt
    cases (Err r) k few near = code_told theory.Answer r (near r refl)

-- the reply 0 to a step of the walk is the end
pub end_told : (s ls : List ℕ) (above : Four) (before after : List ℕ) (p : NextReply s ls above before after 0) → p.answer.walk ≡ Ok None
end_told s ls above before after p = cases p.answer.walk p.reply (λ f e. next_few s ls above p.answer f p.walked e)
  where
    cases :
        (w : Result (Option Four) Refusal) → 0 ≡ step_code w p.answer.length
        → ((f : Four) → w ≡ Ok (Some f) → (1 ≤ p.answer.length) × (p.answer.length ≤ 32)) → w ≡ Ok None
    cases (Ok (Some f)) e few = absurd (omega (arith, few f refl))
    cases (Ok None) e few = refl
    cases (Err r) e few = absurd (omega (arith, number_in r.reason))

-- levels handed out, where the number beside them is small
handed_told :
    (R : Table → (before after : List ℕ) → ℕ → Type 0)
    → ((t : Table) → ReadTable t → (before after : List ℕ) (n : ℕ) → R t before after n → n < 65536)
    → (s before after : List ℕ) (n : ℕ) → HandedReply (InBuffer R) s before after n → Told (with_room s (length before)) n
handed_told R few s before after n p =
    let a = p.handed in
    rw p.reply
    (told (λ t. R t before after) (with_room s (length before)) (handed_of a) (handed_code_lem a) p.promised.outcome (cases a p.promised))
  where
    cases : (a : Result ℕ Refusal) → InBuffer R s before after a → Told (handed_of a) (handed_code_lem a)
    cases (Ok n) h =
        let o = accepted_of ReadTable Near (λ t. R t before after) (with_room s (length before)) n (with_room_near s (length before)) h.outcome in
        few o.0 o.1 before after n o.2
    cases (Err r) h = code_told ℕ r (buffer_near R s before after (Err r) h r refl)

pub lowest_told : (s before after : List ℕ) (n : ℕ) → LowestReply s before after n → Told (with_room s (length before)) n
lowest_told = handed_told (λ t. Lowers form1 (jobs_of t)) lowest_few

pub levels_told : (s before after : List ℕ) (n : ℕ) → LevelsReply s before after n → Told (with_room s (length before)) n
levels_told = handed_told Copies levels_few
