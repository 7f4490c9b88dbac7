-- The jobs of a table that a sheet was read into stand in its arrays.
-- Assumes nothing.
use Rattle.std.specs.Prelude.{ℕ, ◌+◌, ◌*◌, ◌≤◌, ◌<◌, ◌≡◌, length, get_or}
use Rattle.std.proofs.Common.{sym, ap, ◌∙◌, arith}
use Rattle.std.proofs.Math.Decide.{dec_lt}
use Rattle.std.proofs.Math.ListN.{get_or-eq_default}
use Rattle.sheet.specs.declared.Table.{Table}
use Rattle.sheet.specs.Jobs.{jobs_of}
use Rattle.sheet.specs.JobsLaws.{jobs_length, job_none, job_length, operation_is}
use Rattle.sheet.specs.ReadTable.{ReadTable}
use Rattle.theory.specs.Danger.{job}
use Rattle.theory.specs.Form1.{form1}
use Rattle.theory.proofs.Form1Laws.{Writes, writes_known, WritesOnce}
use Rattle.conflicts.specs.Laid.{op_at, Laid, Below}

pub count_read : (t : Table) → length (jobs_of t) ≡ t.jobs
count_read t = jobs_length t.count t.kind t.object t.jobs

module _ (t : Table) (read : ReadTable t) where
  -- a job's count is its length, also beyond the last job
  job_count : (j : ℕ) → length (job form1 (jobs_of t) j) ≡ get_or t.count j 0
  job_count j = cases (dec_lt j t.jobs)
    where
      cases : Dec (j < t.jobs) → length (job form1 (jobs_of t) j) ≡ get_or t.count j 0
      cases (yes h) = job_length t.count t.kind t.object t.jobs j h
      cases (no h) = ap length (job_none t.count t.kind t.object t.jobs j (omega arith)) ∙ sym (read.operations.count_none j (omega arith))

  operation_at_lem : (j o : ℕ) → o < get_or t.count j 0 → get_or (job form1 (jobs_of t) j) o (0, 0) ≡ op_at t.kind t.object (16 * j + o)
  operation_at_lem j o h = cases (dec_lt j t.jobs)
    where
      cases : Dec (j < t.jobs) → get_or (job form1 (jobs_of t) j) o (0, 0) ≡ op_at t.kind t.object (16 * j + o)
      cases (yes l) = operation_is t.count t.kind t.object t.jobs j l o (0, 0) h
      cases (no l) = absurd (omega (arith, read.operations.count_none j (omega arith)))

  pub laid_read : Laid t.kind t.object (jobs_of t)
  laid_read = record {
    few = omega (arith, count_read t, read.operations.jobs_most);
    short = λ j. omega (arith, job_count j, read.operations.count_most j);
    entry = λ j o h. cases j o h (dec_lt o (get_or t.count j 0));
  }
    where
      cases : (j o : ℕ) → o < 16 → Dec (o < get_or t.count j 0) → get_or (job form1 (jobs_of t) j) o (0, 0) ≡ op_at t.kind t.object (16 * j + o)
      cases j o h (yes l) = operation_at_lem j o l
      cases j o h (no l) =
          let end : length (job form1 (jobs_of t) j) ≤ o = omega (arith, job_count j) in
          let kind_none = read.operations.kind_none j o (omega arith) h in
          let object_none = read.operations.object_none j o (omega arith) h in
          get_or-eq_default (job form1 (jobs_of t) j) (0, 0) {n = o} end ∙ sym (λ i. (kind_none i, object_none i))

  pub below_read : Below t.objects (jobs_of t)
  below_read j o h =
      let l : o < get_or t.count j 0 = omega (arith, job_count j) in
      rw (operation_at_lem j o l) (read.operations.object_most j o l)

  -- no job writes an object twice: what writes stands in the arrays, where no two operations of a job are alike
  pub writes_once : (j : ℕ) → WritesOnce (job form1 (jobs_of t) j)
  writes_once j o p x v w = cases (dec_lt o p) (dec_lt p o)
    where
      written : (i : ℕ) → Writes (get_or (job form1 (jobs_of t) j) i (0, 0)) x → (i < get_or t.count j 0) × Writes (op_at t.kind t.object (16 * j + i)) x
      written i u = let h : i < get_or t.count j 0 = omega (arith, job_count j, writes_known (job form1 (jobs_of t) j) i x u) in (h, rw (operation_at_lem j i h) at u)

      alike : (i k : ℕ) → Writes (get_or (job form1 (jobs_of t) j) i (0, 0)) x → Writes (get_or (job form1 (jobs_of t) j) k (0, 0)) x → i < k → ⊥
      alike i k a b l =
          let c = written i a in
          let d = written k b in
          read.operations.once j i k l d.0 (c.1.0 ∙ sym d.1.0) (c.1.1 ∙ sym d.1.1)

      cases : Dec (o < p) → Dec (p < o) → o ≡ p
      cases (yes l) m = absurd (alike o p v w l)
      cases (no l) (yes m) = absurd (alike p o w v m)
      cases (no l) (no m) = omega arith
