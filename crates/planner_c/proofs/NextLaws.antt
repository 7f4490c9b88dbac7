-- The reply to a step of the walk, told of the case that was met.
-- Assumes nothing.
use Prim.Native.Nat.{ℕ}
use mathlib.Core.Path.{◌≡◌, sym, ap, ◌∙◌}
use mathlib.Core.List.{List}
use Rattle.std.specs.Prelude.{Option, Result}
use Rattle.sheet.specs.declared.Refusal.{Refusal}
use Rattle.walk.specs.declared.four.Four.{Four}
use Rattle.planner.specs.Questions.{Walked}
use Rattle.planner.specs.declared.WalkAnswer.{WalkAnswer}
use Rattle.planner_c.specs.Replies.{step_code, step_bytes, NextReply}

pub next_reply :
    (s ls : List ℕ) (above : Four) (before after : List ℕ) (n : ℕ) (a : WalkAnswer) → Walked s ls above a
    → (w : Result (Option Four) Refusal) → a.walk ≡ w → n ≡ step_code w a.length → after ≡ step_bytes w a.chain a.pairs before
    → NextReply s ls above before after n
next_reply s ls above before after n a h w e reply bytes = record {
  answer = a;
  walked = h;
  reply = reply ∙ sym (ap (λ (w : Result (Option Four) Refusal). step_code w a.length) e);
  bytes = bytes ∙ sym (ap (λ (w : Result (Option Four) Refusal). step_bytes w a.chain a.pairs before) e);
}
