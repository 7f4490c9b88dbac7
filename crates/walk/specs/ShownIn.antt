-- What is asked when a danger's chain is shown with its pairs, and how they stand in the arrays (document 01, "The walk and the chain shown").
use Rattle.std.specs.Prelude.{◌≡◌, List, [], ◌∷◌, ◌++◌, map, ℕ, suc, ◌*◌, length, drop}
use Rattle.theory.specs.Danger.{Jobs, Danger}
use Rattle.theory.specs.Guards.{Paper}
use Rattle.theory.specs.Form1.{form1}
use Rattle.theory.specs.Shown.{Shown}
use Rattle.conflicts.specs.Laid.{Laid}
use Rattle.conflicts.specs.Sets.{Sets}

-- The four numbers, counted from 0, are a danger of jobs that the tables belong to.
pub record DangerIn (kind object clash : List ℕ) (level t1 b1 t2 tm : ℕ) : Type 0 where
  pub js : Jobs form1
  pub lv : ℕ → ℕ
  pub writers : List ℕ
  pub ww : List ℕ
  pub rw : List ℕ
  pub wr : List ℕ
  pub laid : Laid kind object js
  pub sets : Sets form1 js kind writers ww rw wr clash
  pub same_level : lv t1 ≡ level
  pub danger : Danger form1 (Paper form1) js lv t1 b1 t2 tm

-- the operations of the pairs in a row, counted from 1
abbrev pub pair_row : List (ℕ × ℕ) → List ℕ
pair_row [] = []
pair_row (p ∷ ps) = suc p.0 ∷ suc p.1 ∷ pair_row ps

-- The chain shown has its n jobs at the front of one array and its pairs at the front of another; what lies beyond keeps its value.
pub record ShownIn (js : Jobs form1) (lv : ℕ → ℕ) (t1 b1 t2 tm : ℕ) (chain₀ chain pairs₀ pairs : List ℕ) (n : ℕ) : Type 0 where
  pub rest : List ℕ
  pub ps : List (ℕ × ℕ)
  pub shown : Shown form1 js lv t1 b1 t2 tm rest ps
  pub count : n ≡ suc (length rest)
  pub jobs : chain ≡ map suc (t2 ∷ rest) ++ drop n chain₀
  pub operations : pairs ≡ pair_row ps ++ drop (2 * length ps) pairs₀

-- The same, with the jobs already written and the pairs still to be.
pub record ToPair (kind object chain : List ℕ) (level t1 b1 t2 : ℕ) : Type 0 where
  pub js : Jobs form1
  pub lv : ℕ → ℕ
  pub laid : Laid kind object js
  pub same_level : lv t1 ≡ level
  pub tm : ℕ
  pub danger : Danger form1 (Paper form1) js lv t1 b1 t2 tm
  pub rest : List ℕ
  pub ps : List (ℕ × ℕ)
  pub shown : Shown form1 js lv t1 b1 t2 tm rest ps
  pub jobs : chain ≡ map suc (t2 ∷ rest)
