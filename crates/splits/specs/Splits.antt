-- Which jobs may be first (T2) and last (Tm) in a chain for the split job t1, by the conditions that each must meet alone
-- (document 01, "Conflicts and splits"), over any conflict rule. Condition 6 is of both, and condition 1 of the jobs between them.
use Rattle.std.specs.Prelude.{◌≡◌, Bool, true, false, ◌&&◌, ◌||◌, not, List, ℕ, ◌<◌, T, leb, ltb, eqb, length, get_or}
use Rattle.theory.specs.Find.{meet?}
use Rattle.theory.specs.Danger.{Rule, Jobs, wr, clash, job, alone, prefix, postfix}
use Rattle.theory.specs.Form1.{form1}
use Rattle.jobset.specs.Jobset.{bit}
use Rattle.chain.specs.Paths.{Path}
use Rattle.conflicts.specs.Sets.{Has, Sets, job_with}

-- job k is one of the sheet's and at SSI
abbrev pub ssi? : ℕ → List ℕ → ℕ → Bool
ssi? jobs levels k = ltb k jobs && leb 2 (get_or levels k 0)

-- t1 and job k are both SSI, which conditions 6 to 8 ask
abbrev pub watch? : (ℕ → ℕ) → ℕ → ℕ → Bool
watch? lv t1 k = leb 2 (lv t1) && leb 2 (lv k)

-- A first job, a last job, not both watched together with t1 (condition 6), and a way from one to the other.
abbrev pub Parts : (ℕ → ℕ) → ℕ → (ℕ → Bool) → (ℕ → Bool) → ℕ → ℕ → Type 0 → Type 0
Parts lv t1 is_first is_last t2 tm Way = T (is_first t2) × T (is_last tm) × (¬ (T (watch? lv t1 t2) × T (watch? lv t1 tm))) × Way

-- job k may not stand between T2 and Tm: it is t1, or conflicts with it (condition 1)
abbrev pub shut? : (r : Rule) → Jobs r → ℕ → ℕ → Bool
shut? r js t1 k = eqb t1 k || job_with r js (clash r) t1 k

-- a path joins some first job with some last one
abbrev pub Meets : List ℕ → ℕ → ℕ → ℕ → Type 0
Meets clash_of shut first last = (j : ℕ) × (k : ℕ) × (c : List ℕ) × (bit first j ≡ 1) × (bit last k ≡ 1) × Path clash_of shut j k c

pub record Meeting (clash_of : List ℕ) (shut first last : ℕ) (b : Bool) : Type 0 where
  pub met : b ≡ true → Meets clash_of shut first last
  pub apart : b ≡ false → ¬ Meets clash_of shut first last

module _ (r : Rule) (js : Jobs r) (lv : ℕ → ℕ) (t1 : ℕ) where
  -- job k may be neither T2 nor Tm: it is t1 itself, or conditions 2 and 3 forbid it
  abbrev pub closed? : ℕ → ℕ → Bool
  closed? b k =
      eqb t1 k
      || (meet? r.ww (prefix r b (job r js t1)) (job r js k) || (leb 1 (lv t1) && meet? r.ww (postfix r b (job r js t1)) (job r js k)))

  -- conditions 2 to 4 and 7 of T2
  abbrev pub first? : ℕ → ℕ → Bool
  first? b k =
      (meet? r.rw (alone r b (job r js t1)) (job r js k) && not (closed? b k))
      && not (watch? lv t1 k && meet? (wr r) (job r js t1) (job r js k))

  -- condition 5 of Tm
  abbrev pub return? : ℕ → ℕ → Bool
  return? b k =
      meet? r.rw (job r js k) (job r js t1)
      || (ltb (lv t1) 1 && meet? (clash r) (job r js k) (postfix r b (job r js t1)))

  -- conditions 2, 3, 5 and 8 of Tm
  abbrev pub last? : ℕ → ℕ → Bool
  last? b k = (return? b k && not (closed? b k)) && not (watch? lv t1 k && meet? r.rw (job r js t1) (job r js k))

  -- For t1 above RC the operation doesn't matter: the jobs that are first for some operation, and last for any.
  abbrev pub first_any? : ℕ → Bool
  first_any? k = (job_with r js r.rw t1 k && not (job_with r js r.ww t1 k)) && not (watch? lv t1 k && job_with r js (wr r) t1 k)

  abbrev pub last_any? : ℕ → Bool
  last_any? k = (job_with r js (wr r) t1 k && not (job_with r js r.ww t1 k)) && not (watch? lv t1 k && job_with r js r.rw t1 k)

  -- The sets of first and of last jobs for each operation of t1.
  pub record Splits (first last : List ℕ) : Type 0 where
    pub firsts : (b : ℕ) → b < 16 → Has (get_or first b 0) (first? b)
    pub lasts : (b : ℕ) → b < 16 → Has (get_or last b 0) (last? b)

-- The same of every sheet's jobs that the sets belong to, with t1 at this level and `watch` the jobs that SSI watches together with it.
pub record SplitsOf (kind writers ww_of rw_of wr_of : List ℕ) (t1 level watch : ℕ) (first last : List ℕ) : Type 0 where
  pub first_full : length first ≡ 16
  pub last_full : length last ≡ 16
  pub splits : (js : Jobs form1) (lv : ℕ → ℕ) (clash_of : List ℕ) → Sets form1 js kind writers ww_of rw_of wr_of clash_of
      → lv t1 ≡ level → Has watch (watch? lv t1) → Splits form1 js lv t1 first last

-- Likewise the set of the jobs that may not stand between T2 and Tm.
abbrev pub ShutBy : List ℕ → ℕ → ℕ → Type 0
ShutBy clash_of t1 shut =
    (js : Jobs form1) (kind writers ww_of rw_of wr_of : List ℕ) → Sets form1 js kind writers ww_of rw_of wr_of clash_of → Has shut (shut? form1 js t1)
