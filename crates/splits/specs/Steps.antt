-- What the loops over a split job's operations have worked out so far: condition 5 from the last operation back, conditions 2 and 3 from the first on.
use Rattle.std.specs.Prelude.{◌≡◌, Bool, ◌&&◌, ◌||◌, List, ℕ, ◌≤◌, ◌<◌, leb, ltb, eqb, length, get_or, take, drop}
use Rattle.jobset.specs.Jobset.{bit, one}
use Rattle.theory.specs.Find.{meet?}
use Rattle.theory.specs.Danger.{Rule, Jobs, wr, clash, job}
use Rattle.theory.specs.Form1.{form1}
use Rattle.conflicts.specs.Sets.{Has, Sets, job_with}
use Rattle.splits.specs.Splits.{first?, last?, return?}

-- of the jobs other than t1, m has just those that pass
abbrev pub Besides : ℕ → ℕ → (ℕ → Bool) → Type 0
Besides t1 m p = (k : ℕ) → ¬ (t1 ≡ k) → bit m k ≡ one (p k)

module _ (r : Rule) (js : Jobs r) (lv : ℕ → ℕ) (t1 : ℕ) where
  -- condition 5 of Tm, where the later operations are those from n on
  abbrev pub returning? : ℕ → ℕ → Bool
  returning? n k = meet? r.rw (job r js k) (job r js t1) || (ltb (lv t1) 1 && meet? (clash r) (job r js k) (drop n (job r js t1)))

  -- t1 and the jobs that conditions 2 and 3 forbid, where the prefix is the first n operations
  abbrev pub closing? : ℕ → ℕ → Bool
  closing? n k = eqb t1 k || (meet? r.ww (take n (job r js t1)) (job r js k) || (leb 1 (lv t1) && meet? r.ww (drop n (job r js t1)) (job r js k)))

  -- from operation n on, `last` has the jobs that meet condition 5
  pub record Returning (n : ℕ) (last : List ℕ) : Type 0 where
    pub lasts : (b : ℕ) → n ≤ b → b < 16 → Besides t1 (get_or last b 0) (return? r js lv t1 b)

  -- up to operation n, `first` and `last` have the first and the last jobs
  pub record Splitting (n closed : ℕ) (first last : List ℕ) : Type 0 where
    pub closes : Has closed (closing? n)
    pub firsts : (b : ℕ) → b < n → Has (get_or first b 0) (first? r js lv t1 b)
    pub lasts : (b : ℕ) → b < n → Has (get_or last b 0) (last? r js lv t1 b)
    pub rest : Returning n last

-- what holds of every sheet's jobs that the sets belong to, with t1 at this level and `back` the jobs that are rw with it
abbrev pub Under : List ℕ → List ℕ → ℕ → ℕ → ℕ → (Jobs form1 → (ℕ → ℕ) → Type 0) → Type 0
Under kind writers t1 level back P =
    (js : Jobs form1) (lv : ℕ → ℕ) (ww_of rw_of wr_of clash_of : List ℕ) → Sets form1 js kind writers ww_of rw_of wr_of clash_of → lv t1 ≡ level → Has back (job_with form1 js (wr form1) t1) → P js lv

pub record ReturnsOf (kind writers : List ℕ) (t1 level back : ℕ) (last : List ℕ) : Type 0 where
  pub full : length last ≡ 16
  pub returns : Under kind writers t1 level back (λ js lv. Returning form1 js lv t1 0 last)
