-- The sets of jobs that an operation and a job conflict with (document 01, "Conflicts and splits"), over any conflict rule.
use Rattle.std.specs.Prelude.{◌≡◌, Bool, cond, not, ◌&&◌, List, ℕ, ◌+◌, ◌*◌, ◌≤◌, ◌<◌, eqb, length, get_or}
use Rattle.jobset.specs.Jobset.{bit, one}
use Rattle.theory.specs.Find.{meet?}
use Rattle.theory.specs.Danger.{Rule, Jobs, wr, clash, job, alone}

-- m has just the jobs that pass
abbrev pub Has : ℕ → (ℕ → Bool) → Type 0
Has m p = (k : ℕ) → bit m k ≡ one (p k)

-- the jobs that write over the operation at i if it is of kind k, no job otherwise: those with which a read (1) is rw, a write (2) ww
abbrev pub over : List ℕ → List ℕ → ℕ → ℕ → ℕ
over kind writers i k = cond (eqb (get_or kind i 0) k) (get_or writers i 0) 0

module _ (r : Rule) (js : Jobs r) where
  -- operation o of job j, and some operation of job k
  abbrev pub op_with : (r.Op → r.Op → Bool) → ℕ → ℕ → ℕ → Bool
  op_with p j o k = meet? p (alone r o (job r js j)) (job r js k)

  -- job j and another job k
  abbrev pub job_with : (r.Op → r.Op → Bool) → ℕ → ℕ → Bool
  job_with p j k = not (eqb j k) && meet? p (job r js j) (job r js k)

  -- The sets that belong to a sheet's jobs: operation o of job j stands at 16 * j + o of `kind` and `writers`, job j at j of the other four.
  pub record Sets (kind writers ww_of rw_of wr_of clash_of : List ℕ) : Type 0 where
    pub few : length js ≤ 32
    pub short : (j : ℕ) → length (job r js j) ≤ 16
    pub both_ways : (a b : r.Op) → r.ww a b ≡ r.ww b a
    pub op_rw : (j o : ℕ) → j < 32 → o < 16 → Has (over kind writers (16 * j + o) 1) (op_with r.rw j o)
    pub op_ww : (j o : ℕ) → j < 32 → o < 16 → Has (over kind writers (16 * j + o) 2) (op_with r.ww j o)
    pub job_ww : (j : ℕ) → j < 32 → Has (get_or ww_of j 0) (job_with r.ww j)
    pub job_rw : (j : ℕ) → j < 32 → Has (get_or rw_of j 0) (job_with r.rw j)
    pub job_wr : (j : ℕ) → j < 32 → Has (get_or wr_of j 0) (job_with (wr r) j)
    pub job_clash : (j : ℕ) → j < 32 → Has (get_or clash_of j 0) (job_with (clash r) j)
