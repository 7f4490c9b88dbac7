-- What the verdict and the lowest levels are (document 01, "Conflicts and splits" and "Lowest levels and the number asked"), over any conflict rule.
use Rattle.std.specs.Prelude.{◌≡◌, Bool, true, false, List, ℕ, length, take, drop}
use Rattle.theory.specs.Danger.{Rule, Jobs, Danger}
use Rattle.theory.specs.Guards.{Paper}
use Rattle.theory.specs.Lowest.{RobustBy, Lowest, Asked}

-- b tells whether P holds
pub record Tells (P : Type 0) (b : Bool) : Type 0 where
  pub yes : b ≡ true → P
  pub no : b ≡ false → ¬ P

module _ (r : Rule) (js : Jobs r) where
  -- job t1 is the split job of a danger
  abbrev pub IsSplit : (ℕ → ℕ) → ℕ → Type 0
  IsSplit lv t1 = (b1 : ℕ) × (t2 : ℕ) × (tm : ℕ) × Danger r (Paper r) js lv t1 b1 t2 tm

  abbrev pub SplitBy : (ℕ → ℕ) → ℕ → Bool → Type 0
  SplitBy lv t1 = Tells (IsSplit lv t1)

  -- the sheet is robust against a list of levels
  abbrev pub RobustFor : List ℕ → Type 0
  RobustFor = RobustBy r (Paper r) js

  abbrev pub Judged : List ℕ → Bool → Type 0
  Judged ls = Tells (RobustFor ls)

  -- The lowest levels stand in the first places, the others are as before, and n is the number asked.
  pub record Lowers (before after : List ℕ) (n : ℕ) : Type 0 where
    pub lowest : Lowest (length js) 2 RobustFor (take (length js) after)
    pub size : length after ≡ length before
    pub kept : drop (length js) after ≡ drop (length js) before
    pub number : Asked (length js) 2 RobustFor n
