-- The laws by the short names, for the crates with code.
use Rattle.std.specs.Prelude.{◌≡◌, ◌↔◌, List, ℕ, ◌+◌, ◌≤◌, ◌<◌, length, set}
use Rattle.theory.specs.Danger.{Jobs}
use Rattle.theory.specs.Guards.{Paper}
use Rattle.theory.specs.Form1.{form1}
use Rattle.theory.specs.Lowest.{level, Levels, Below, above}
use Rattle.theory.specs.Walk.{Four, Answer, Whole}
use Rattle.theory.specs.Planner.{Robust₁, Lowest₁, Asked₁, Danger₁, Walks₁, Shown₁}
use Rattle.theory.proofs.GuardLaws.{paper_lawful}
use Rattle.theory.proofs.Decide.{paper_test}
use Rattle.theory.proofs.LowestLaws.{tops}
use Rattle.theory.proofs.PairLaws.{shown, one_shown}
use Rattle.theory.proofs.WalkLaws.{one_answer}
use Rattle.theory.proofs.Lines.{walk_whole}
use Rattle.theory.proofs.RobustLaws.{raise, lowest_once, lowest_levels, robust_iff, robust_alone, found_alone, all_ssi_robust, number_asked, one_asked, asked_within}

module _ (js : Jobs form1) where
  module _ (ls : List ℕ) where
    -- the walk has one answer, and it comes to its end; the chain shown is there, and one only
    pub one_answer₁ : (q : Four) (a b : Answer) → Walks₁ js ls q a → Walks₁ js ls q b → a ≡ b
    one_answer₁ = one_answer form1 (Paper form1) js (level ls)

    pub walk_whole₁ : (q : Four) → (fs : List Four) × Whole form1 (Paper form1) js (level ls) q fs
    walk_whole₁ = walk_whole form1 (Paper form1) js (level ls) (paper_test form1)

    pub shown₁ : {t1 b1 t2 tm : ℕ} → Danger₁ js ls t1 b1 t2 tm → (c : List ℕ) × (ps : List (ℕ × ℕ)) × Shown₁ js ls t1 b1 t2 tm c ps
    shown₁ = shown form1 (Paper form1) js

    pub one_shown₁ : (t1 b1 t2 tm : ℕ) (c d : List ℕ) (ps qs : List (ℕ × ℕ)) → Shown₁ js ls t1 b1 t2 tm c ps → Shown₁ js ls t1 b1 t2 tm d qs → (c ≡ d) × (ps ≡ qs)
    one_shown₁ = one_shown form1 js (level ls)

  -- the laws of lowest levels by these names
  pub raise₁ : (ls ms : List ℕ) → Levels (length js) 2 ls → Levels (length js) 2 ms → Below ls ms → Robust₁ js ls → Robust₁ js ms
  raise₁ = raise form1 (Paper form1) (paper_lawful form1) js 2

  pub all_ssi₁ : Robust₁ js (tops (length js) 2)
  all_ssi₁ = all_ssi_robust form1 (Paper form1) (paper_lawful form1) js

  pub lowest₁ : (ls : List ℕ) × Lowest₁ js ls
  lowest₁ = lowest_levels form1 (Paper form1) (paper_lawful form1) js

  pub one_lowest₁ : (ls ms : List ℕ) → Lowest₁ js ls → Lowest₁ js ms → ls ≡ ms
  one_lowest₁ = lowest_once form1 (Paper form1) (paper_lawful form1) js 2

  pub robust_iff₁ : (ls ms : List ℕ) → Lowest₁ js ls → Levels (length js) 2 ms → Robust₁ js ms ↔ Below ls ms
  robust_iff₁ = robust_iff form1 (Paper form1) (paper_lawful form1) js 2

  pub robust_alone₁ : (ls : List ℕ) → Lowest₁ js ls → (j l : ℕ) → j < length js → l ≤ 2 → Robust₁ js (set (tops (length js) 2) j l) ↔ (level ls j ≤ l)
  robust_alone₁ = robust_alone form1 (Paper form1) (paper_lawful form1) js 2

  pub found_alone₁ : (ms : List ℕ) → Levels (length js) 2 ms → ((j l : ℕ) → j < length js → l ≤ 2 → Robust₁ js (set (tops (length js) 2) j l) ↔ (level ms j ≤ l)) → Lowest₁ js ms
  found_alone₁ = found_alone form1 (Paper form1) (paper_lawful form1) js 2 all_ssi₁

  pub number_asked₁ : (ls : List ℕ) → Lowest₁ js ls → Asked₁ js (length js + above ls)
  number_asked₁ = number_asked form1 (Paper form1) (paper_lawful form1) js

  pub one_asked₁ : (k l : ℕ) → Asked₁ js k → Asked₁ js l → k ≡ l
  one_asked₁ = one_asked form1 (Paper form1) (paper_lawful form1) js 2

  pub asked_within₁ : (k : ℕ) → length js ≤ 32 → Asked₁ js k → k ≤ 64
  asked_within₁ = asked_within form1 (Paper form1) (paper_lawful form1) js
