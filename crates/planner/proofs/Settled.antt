-- Each statement settles its question: two answers that it allows are equal (document 01, "How firmly each call is tied down").
-- Assumes nothing.
use Rattle.std.specs.Prelude.{ℕ, suc, ◌*◌, ◌≡◌, refl, Bool, List, ◌∷◌, ◌++◌, map, length, drop, replicate, Option, Some, None, Result, Ok, Err}
use Rattle.std.proofs.Common.{sym, ap, ap₂, ◌∙◌}
use Rattle.std.proofs.Math.Nat.{suc_inj}
use Rattle.theory.specs.Danger.{Jobs}
use Rattle.theory.specs.Form1.{form1}
use Rattle.theory.specs.Planner.{Robust₁, Shown₁}
use Rattle.theory.proofs.PlannerLaws.{one_answer₁, one_shown₁}
use Rattle.theory.specs.Walk as theory
use Rattle.sheet.specs.Step.{Step, ok, fault}
use Rattle.sheet.specs.Answer.{step_of}
use Rattle.sheet.specs.AnswerLaws.{fault_tells}
use Rattle.sheet.specs.Jobs.{jobs_of}
use Rattle.sheet.specs.declared.Refusal.{Refusal}
use Rattle.sheet.specs.declared.Table.{Table}
use Rattle.verdict.specs.Verdict.{Tells}
use Rattle.verdict.specs.SettledLaws.{one_verdict, one_lowering, same_bytes}
use Rattle.walk.specs.Answers.{named, answered}
use Rattle.walk.specs.ShownIn.{pair_row}
use Rattle.walk.specs.declared.four.Four.{Four}
use Rattle.planner.specs.Checks.{with_levels, with_room}
use Rattle.planner.specs.Questions.{Answers, robust_of, verdict_of, Judged, walk_of, Beside, Walks, ChainBeside, NoChain, Walked, handed_of, InBuffer, LowestHanded, Copies, LevelsCopied}
use Rattle.planner.specs.declared.Verdict.{Verdict}
use Rattle.planner.specs.declared.Verdict.TheVariants as verdict
use Rattle.planner.specs.declared.WalkAnswer.{WalkAnswer}

-- where each relation leaves one value, there is one answer to what was checked
answers_once :
    {A B : Type 0} (R S : A → B → Type 0) → ((a : A) (b c : B) → R a b → S a c → b ≡ c)
    → (x : Step A) (y z : Step B) → Answers R x y → Answers S x z → y ≡ z
answers_once R S one (ok a) (ok b) (ok c) p q = ap ok (one a b c p q)
answers_once R S one (ok a) (ok b) (fault n m) p q = absurd q
answers_once R S one (ok a) (fault n m) z p q = absurd p
answers_once R S one (fault k l) (ok b) z p q = absurd p
answers_once R S one (fault k l) (fault n m) (ok c) p q = absurd q
answers_once R S one (fault k l) (fault n m) (fault i j) p q = ap₂ fault (sym p.0 ∙ q.0) (sym p.1 ∙ q.1)

-- no two answers are one step, where no two values stand for one
step_tells :
    {A B : Type 0} (value : A → B) → ((a b : A) → value a ≡ value b → a ≡ b)
    → (v w : Result A Refusal) → step_of value v ≡ step_of value w → v ≡ w
step_tells value tells (Ok a) (Ok b) e = let d : value a ≡ value b = cc in ap Ok (tells a b d)
step_tells value tells (Ok a) (Err r) e = absurd (cc)
step_tells value tells (Err r) (Ok b) e = absurd (cc)
step_tells {B = B} value tells (Err r) (Err q) e = ap Err (fault_tells {A = B} r q e)

-- `judge`
robust_tells : (v w : Verdict) → robust_of v ≡ robust_of w → v ≡ w
robust_tells verdict.Robust verdict.Robust e = refl
robust_tells verdict.Robust verdict.Dangerous e = absurd (cc)
robust_tells verdict.Dangerous verdict.Robust e = absurd (cc)
robust_tells verdict.Dangerous verdict.Dangerous e = refl

verdict_tells : (v w : Result Verdict Refusal) → verdict_of v ≡ verdict_of w → v ≡ w
verdict_tells = step_tells robust_of robust_tells

pub judge_settled : (s ls : List ℕ) (v w : Result Verdict Refusal) → Judged s ls v → Judged s ls w → v ≡ w
judge_settled s ls v w p q =
    let R : Table → Bool → Type 0 = λ t. Tells (Robust₁ (jobs_of t) ls) in
    verdict_tells v w (answers_once R R (λ t. one_verdict) (with_levels s ls) (verdict_of v) (verdict_of w) p q)

-- `next_danger`
named_tells : (f g : Four) → named f ≡ named g → f ≡ g
named_tells f g e = λ i. record { t1 = (e i).t1; b1 = (e i).b1; t2 = (e i).t2; tm = (e i).tm }

answer_tells : (v w : Option Four) → answered v ≡ answered w → v ≡ w
answer_tells (Some f) (Some g) e = let d : named f ≡ named g = cc in ap Some (named_tells f g d)
answer_tells (Some f) None e = absurd (cc)
answer_tells None (Some g) e = absurd (cc)
answer_tells None None e = refl

walk_tells : (v w : Result (Option Four) Refusal) → walk_of v ≡ walk_of w → v ≡ w
walk_tells = step_tells answered answer_tells

ap₃ : {A B C D : Type 0} (f : A → B → C → D) {a x : A} {b y : B} {c z : C} → a ≡ x → b ≡ y → c ≡ z → f a b c ≡ f x y z
ap₃ f p q r = λ i. f (p i) (q i) (r i)

-- the same chain and pairs beside two answers
record Alike (a b : WalkAnswer) : Type 0 where
  length_is : a.length ≡ b.length
  chain_is : a.chain ≡ b.chain
  pairs_are : a.pairs ≡ b.pairs

none_alike : (a b : WalkAnswer) → NoChain a → NoChain b → Alike a b
none_alike a b p q = record {
  length_is = p.length_is ∙ sym q.length_is;
  chain_is = p.chain_is ∙ sym q.chain_is;
  pairs_are = p.pairs_are ∙ sym q.pairs_are;
}

chain_alike : (js : Jobs form1) (ls : List ℕ) (f : theory.Four) (a b : WalkAnswer) → ChainBeside js ls f a → ChainBeside js ls f b → Alike a b
chain_alike js ls f a b p q = record {
  length_is = long;
  chain_is = p.shown.jobs ∙ ap₃ (λ (t n : ℕ) (c : List ℕ). map suc (t ∷ c) ++ drop n (replicate 32 0)) first long one.0 ∙ sym q.shown.jobs;
  pairs_are = p.shown.operations ∙ ap (λ (ps : List (ℕ × ℕ)). pair_row ps ++ drop (2 * length ps) (replicate 64 0)) one.1 ∙ sym q.shown.operations;
}
  where
    numbers : theory.from_one_lem p.t1 p.b1 p.t2 p.tm ≡ theory.from_one_lem q.t1 q.b1 q.t2 q.tm
    numbers = sym p.numbers ∙ q.numbers

    split : p.t1 ≡ q.t1
    split = suc_inj (ap (λ (g : theory.Four). g.t1) numbers)

    operation : p.b1 ≡ q.b1
    operation = suc_inj (ap (λ (g : theory.Four). g.b1) numbers)

    first : p.t2 ≡ q.t2
    first = suc_inj (ap (λ (g : theory.Four). g.t2) numbers)

    last : p.tm ≡ q.tm
    last = suc_inj (ap (λ (g : theory.Four). g.tm) numbers)

    moved : Shown₁ js ls p.t1 p.b1 p.t2 p.tm q.shown.rest q.shown.ps
    moved = rw (split, operation, first, last) q.shown.shown

    one : (p.shown.rest ≡ q.shown.rest) × (p.shown.ps ≡ q.shown.ps)
    one = one_shown₁ js ls p.t1 p.b1 p.t2 p.tm _ _ _ _ p.shown.shown moved

    long : a.length ≡ b.length
    long = p.shown.count ∙ ap (λ (c : List ℕ). suc (length c)) one.0 ∙ sym q.shown.count

beside_alike : (js : Jobs form1) (ls : List ℕ) (a b : WalkAnswer) (w : theory.Answer) → Beside js ls a w → Beside js ls b w → Alike a b
beside_alike js ls a b (theory.found f) p q = chain_alike js ls f a b p q
beside_alike js ls a b theory.end p q = none_alike a b p q

module _ (ls : List ℕ) (above : Four) (a b : WalkAnswer) where
  abbrev Told : WalkAnswer → Table → theory.Answer → Type 0
  Told a t = Walks ls above a (jobs_of t)

  shown_alike : (t : Table) (y z : Step theory.Answer) → y ≡ z → Answers (Told a) (ok t) y → Answers (Told b) (ok t) z → Alike a b
  shown_alike t (ok v) (ok w) e p q = let d : v ≡ w = cc in beside_alike (jobs_of t) ls a b w (rw d at p.1) q.1
  shown_alike t (ok v) (fault n m) e p q = absurd q
  shown_alike t (fault n m) z e p q = absurd p

  -- a fault is told by a refusal alone
  refusal : (R : Table → theory.Answer → Type 0) (n m : ℕ) (v : Result (Option Four) Refusal) → Answers R (fault n m) (walk_of v) → (r : Refusal) × (v ≡ Err r)
  refusal R n m (Ok v) p = absurd p
  refusal R n m (Err r) p = (r, refl)

  alike :
      (x : Step Table) → walk_of a.walk ≡ walk_of b.walk
      → Answers (Told a) x (walk_of a.walk) → Answers (Told b) x (walk_of b.walk)
      → ((r : Refusal) → a.walk ≡ Err r → NoChain a) → ((r : Refusal) → b.walk ≡ Err r → NoChain b) → Alike a b
  alike (ok t) e p q f g = shown_alike t (walk_of a.walk) (walk_of b.walk) e p q
  alike (fault n m) e p q f g =
      let r = refusal (Told a) n m a.walk p in
      let s = refusal (Told b) n m b.walk q in
      none_alike a b (f r.0 r.1) (g s.0 s.1)

pub walk_settled : (s ls : List ℕ) (above : Four) (a b : WalkAnswer) → Walked s ls above a → Walked s ls above b → a ≡ b
walk_settled s ls above a b p q =
    let e = answers_once (Told ls above a b a) (Told ls above a b b) (λ t v w h k. one_answer₁ (jobs_of t) ls (named above) v w h.0 k.0) (with_levels s ls) (walk_of a.walk) (walk_of b.walk) p.outcome q.outcome in
    let w = walk_tells a.walk b.walk e in
    let h = alike ls above a b (with_levels s ls) e p.outcome q.outcome p.refused q.refused in
    λ i. record { walk = w i; length = h.length_is i; chain = h.chain_is i; pairs = h.pairs_are i }

-- levels handed out: the answer, and each byte of the buffer afterwards
buffer_settled :
    (R : Table → (before after : List ℕ) → ℕ → Type 0) (s before x y : List ℕ)
    → ((t : Table) (n m : ℕ) → R t before x n → R t before y m → (x ≡ y) × (n ≡ m))
    → (a b : Result ℕ Refusal) → InBuffer R s before x a → InBuffer R s before y b → (a ≡ b) × (x ≡ y)
buffer_settled R s before x y once a b p q = cases (with_room s (length before)) a b p.outcome q.outcome p.refused q.refused
  where
    cases :
        (c : Step Table) (a b : Result ℕ Refusal) → Answers (λ t. R t before x) c (handed_of a) → Answers (λ t. R t before y) c (handed_of b)
        → ((r : Refusal) → a ≡ Err r → x ≡ before) → ((r : Refusal) → b ≡ Err r → y ≡ before)
        → (a ≡ b) × (x ≡ y)
    cases (ok t) (Ok n) (Ok m) h k f g = let one = once t n m h k in (ap Ok one.1, one.0)
    cases (ok t) (Ok n) (Err r) h k f g = absurd k
    cases (ok t) (Err r) b h k f g = absurd h
    cases (fault i j) (Ok n) b h k f g = absurd h
    cases (fault i j) (Err r) (Ok m) h k f g = absurd k
    cases (fault i j) (Err r) (Err l) h k f g =
        (ap Err (fault_tells {A = ℕ} r l (ap₂ fault (sym h.0 ∙ k.0) (sym h.1 ∙ k.1))), f r refl ∙ sym (g l refl))

pub lowest_settled : (s before x y : List ℕ) (a b : Result ℕ Refusal) → LowestHanded s before x a → LowestHanded s before y b → (a ≡ b) × (x ≡ y)
lowest_settled s before x y = buffer_settled _ s before x y (λ t. one_lowering form1 (jobs_of t) before x y)

one_copy : (t : Table) (before x y : List ℕ) (n m : ℕ) → Copies t before x n → Copies t before y m → (x ≡ y) × (n ≡ m)
one_copy t before x y n m p q = (same_bytes t.jobs x y (p.levels ∙ sym q.levels) (p.kept ∙ sym q.kept), p.number ∙ sym q.number)

pub levels_settled : (s before x y : List ℕ) (a b : Result ℕ Refusal) → LevelsCopied s before x a → LevelsCopied s before y b → (a ≡ b) × (x ≡ y)
levels_settled s before x y = buffer_settled _ s before x y (λ t. one_copy t before x y)
