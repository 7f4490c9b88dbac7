-- Which jobs need SSI, and a job's lowest level by itself: all other jobs are at SSI (the theory's law on single jobs), over any conflict rule.
use Rattle.std.specs.Prelude.{◌≡◌, ◌↔◌, cond, List, ℕ, ◌≤◌, ◌<◌, eqb}
use Rattle.jobset.specs.Jobset.{bit}
use Rattle.theory.specs.Danger.{Rule, Jobs, Robust}
use Rattle.theory.specs.Guards.{Paper}
use Rattle.chain.specs.Paths.{Path}
use Rattle.verdict.specs.Verdict.{IsSplit}

-- the levels of all jobs where only job j is not at SSI but at l
abbrev pub only : ℕ → ℕ → ℕ → ℕ
only j l k = cond (eqb j k) l 2

-- Job j is in both sets, or it is in one of them and a path leads to it from a job that is in the other alone.
pub data Hit (clash_of : List ℕ) (shut first last j : ℕ) : Type 0 where
  both : bit first j ≡ 1 → bit last j ≡ 1 → Hit clash_of shut first last j
  ahead : (k : ℕ) (c : List ℕ) → bit first j ≡ 1 → bit last k ≡ 1 → bit first k ≡ 0 → Path clash_of shut k j c → Hit clash_of shut first last j
  behind : (k : ℕ) (c : List ℕ) → bit last j ≡ 1 → bit first k ≡ 1 → bit last k ≡ 0 → Path clash_of shut k j c → Hit clash_of shut first last j

module _ (r : Rule) (js : Jobs r) where
  -- m has the jobs beside which, all others being at SSI, job i is split if they are at SI
  abbrev pub NeededBy : ℕ → ℕ → Type 0
  NeededBy i m = (j : ℕ) → (bit m j ≡ 1) ↔ IsSplit r js (only j 1) i

  -- m has the jobs for which SI is too low beside jobs that are all at SSI
  pub record Needed (m : ℕ) : Type 0 where
    pub yes : (j : ℕ) → bit m j ≡ 1 → ¬ Robust r (Paper r) js (only j 1)
    pub no : (j : ℕ) → bit m j ≡ 0 → Robust r (Paper r) js (only j 1)

  -- l is the lowest level of job j beside jobs that are all at SSI
  pub record LowestOf (j l : ℕ) : Type 0 where
    pub offered : l ≤ 2
    pub robust : Robust r (Paper r) js (only j l)
    pub least : (m : ℕ) → m < l → ¬ Robust r (Paper r) js (only j m)
