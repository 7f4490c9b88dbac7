-- What `find` leaves in its arrays, every entry of them.
use Rattle.std.specs.Prelude.{◌≡◌, Bool, ◌&&◌, List, ℕ, ◌*◌, ◌≤◌, ◌<◌, eqb, length, get_or}
use Rattle.theory.specs.Find.{some?}
use Rattle.theory.specs.Danger.{Jobs, job}
use Rattle.theory.specs.Form1.{form1}
use Rattle.conflicts.specs.Sets.{Has, Sets}

-- job k writes object x
abbrev pub writes_in? : Jobs form1 → ℕ → ℕ → Bool
writes_in? js x k = some? (λ y. eqb y.0 2 && eqb x y.1) (job form1 js k)

-- The sets of the jobs. In `writers` each entry of theirs, used or not, has the jobs that write the object that stands there, and behind
-- them there are zeros.
pub record SetsFound (js : Jobs form1) (kind object writers ww_of rw_of wr_of clash_of : List ℕ) : Type 0 where
  pub sets : Sets form1 js kind writers ww_of rw_of wr_of clash_of
  pub writers_long : length writers ≡ 512
  pub entry : (i : ℕ) → i < 16 * length js → Has (get_or writers i 0) (writes_in? js (get_or object i 0))
  pub behind : (i : ℕ) → 16 * length js ≤ i → get_or writers i 0 ≡ 0
  pub ww_long : length ww_of ≡ 32
  pub rw_long : length rw_of ≡ 32
  pub wr_long : length wr_of ≡ 32
  pub clash_long : length clash_of ≡ 32
