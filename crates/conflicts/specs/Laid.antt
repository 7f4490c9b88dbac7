-- How the jobs of a sheet stand in a table's arrays (document 01, "The sheet, form 1").
use Rattle.std.specs.Prelude.{◌≡◌, List, ℕ, ◌+◌, ◌*◌, ◌≤◌, ◌<◌, length, get_or}
use Rattle.theory.specs.Danger.{Jobs, job}
use Rattle.theory.specs.Form1.{form1}

-- the operation that stands at i, by kind and object
abbrev pub op_at : List ℕ → List ℕ → ℕ → ℕ × ℕ
op_at kind object i = (get_or kind i 0, get_or object i 0)

-- operation o of job j stands at 16 * j + o, and where there is none both entries are zero
pub record Laid (kind object : List ℕ) (js : Jobs form1) : Type 0 where
  pub few : length js ≤ 32
  pub short : (j : ℕ) → length (job form1 js j) ≤ 16
  pub entry : (j o : ℕ) → o < 16 → get_or (job form1 js j) o (0, 0) ≡ op_at kind object (16 * j + o)

-- every object is below the declared number
abbrev pub Below : ℕ → Jobs form1 → Type 0
Below objects js = (j o : ℕ) → o < length (job form1 js j) → (get_or (job form1 js j) o (0, 0)).1 < objects

-- so many jobs stand in the arrays, on objects below the declared number
pub record Stands (jobs objects : ℕ) (kind object : List ℕ) : Type 0 where
  pub js : Jobs form1
  pub size : length js ≡ jobs
  pub below : Below objects js
  pub laid : Laid kind object js
