-- Each danger that the walk finds is above the numbers given, so a walk through all of them ends.
-- Assumes nothing.
use Rattle.std.specs.Prelude.{◌≡◌, ℕ, ◌<◌, List, Ok, Some}
use Rattle.theory.specs.Danger.{Jobs}
use Rattle.theory.specs.Form1.{form1}
use Rattle.sheet.specs.Step.{ok}
use Rattle.walk.specs.Starts.{key}
use Rattle.walk.specs.declared.four.Four.{Four}
use Rattle.walk.proofs.Keys.{before_key}
use Rattle.planner.specs.Questions.{Answers, Walks, walk_of}
use Rattle.planner.specs.declared.WalkAnswer.{WalkAnswer}
use Rattle.survey.specs.Bytes.{Bytes}

abbrev pub key_of : Four → ℕ
key_of q = key q.t1 q.b1 q.t2 q.tm

module _ (js : Jobs form1) (ls : List ℕ) (above q : Four) (a : WalkAnswer) where
  pub rises : Bytes above → Bytes q → a.walk ≡ Ok (Some q) → Answers (λ js. Walks ls above a js) (ok js) (walk_of a.walk) → key_of above < key_of q
  rises p r e w = before_key _ _ _ _ _ _ _ _ (p.b1, p.t2, p.tm) (r.b1, r.t2, r.tm) (rw e at w).0.above
