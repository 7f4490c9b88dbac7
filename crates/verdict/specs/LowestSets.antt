-- The lowest levels, each job's found by itself: where all other jobs are at SSI, it is the lowest level at which the sheet is robust.
use Rattle.std.specs.Prelude.{◌≡◌, ◌↔◌, List, ℕ, ◌+◌, ◌≤◌, ◌<◌, length, set}
use Rattle.std.proofs.Common.{sym, ap, subst, ◌∙◌, inl, inr, arith}
use Rattle.std.proofs.Math.Decide.{ℕ_discrete, dec_lt, dec_le}
use Rattle.std.proofs.lemmas.List.{length-replicate}
use Rattle.theory.specs.Danger.{Rule, Jobs, SSI, Danger, Robust}
use Rattle.theory.specs.Guards.{Paper}
use Rattle.theory.proofs.GuardLaws.{paper_lawful}
use Rattle.theory.proofs.DangerLaws.{relevel, robust_higher, all_ssi}
use Rattle.theory.specs.Lowest.{level, Lowest, Asked, above}
use Rattle.theory.proofs.LowestLaws.{tops, level_set, level_tops, level_beyond}
use Rattle.theory.proofs.RobustLaws.{all_ssi_robust, found_alone, number_asked}
use Rattle.verdict.specs.Verdict.{IsSplit, RobustFor}
use Rattle.verdict.specs.Needed.{only, LowestOf}
use Rattle.verdict.specs.OnlyLaws.{only_at, only_other}

module _ (r : Rule) (js : Jobs r) where
  -- a higher level of the one job keeps the sheet robust
  pub only_higher : (j l m : ℕ) → l ≤ m → m ≤ 2 → Robust r (Paper r) js (only j l) → Robust r (Paper r) js (only j m)
  only_higher j l m le top = robust_higher r (Paper r) (paper_lawful r) js (only j l) (only j m) (λ k _. at k (ℕ_discrete j k))
    where
      at : (k : ℕ) → Dec (j ≡ k) → only j l k ≤ only j m k
      at k (yes e) = rw (← e) (omega (arith, only_at j l, only_at j m))
      at k (no ne) = omega (arith, only_other j l k ne, only_other j m k ne)

  -- of a list of levels that are all SSI but one
  only_list : (j l : ℕ) → j < length js → (k : ℕ) → k < length js → level (set (tops (length js) 2) j l) k ≡ only j l k
  only_list j l h k hk = elim (level_set (tops (length js) 2) j l (omega (arith, length-replicate {A = ℕ} (length js) 2)) k) [
    | inl p ↦ p.1 ∙ sym (ap (only j l) p.0 ∙ only_at j l)
    | inr p ↦ p.1 ∙ level_tops (length js) 2 k hk ∙ sym (only_other j l k (λ e. p.0 (sym e)))
  ]

  robust_list : (j l : ℕ) → j < length js → RobustFor r js (set (tops (length js) 2) j l) ↔ Robust r (Paper r) js (only j l)
  robust_list j l h = (
    robust_higher r (Paper r) (paper_lawful r) js (level (set (tops (length js) 2) j l)) (only j l) (λ k hk. omega (arith, only_list j l h k hk)),
    robust_higher r (Paper r) (paper_lawful r) js (only j l) (level (set (tops (length js) 2) j l)) (λ k hk. omega (arith, only_list j l h k hk)),
  )

  -- each job at its own lowest level, the list has the lowest levels
  pub lowest_found : (ls : List ℕ) → length ls ≡ length js → ((j : ℕ) → j < length js → LowestOf r js j (level ls j)) → Lowest (length js) 2 (RobustFor r js) ls
  lowest_found ls size each =
      found_alone r (Paper r) (paper_lawful r) js 2 (all_ssi_robust r (Paper r) (paper_lawful r) js) ls (record { size = size; offered = λ j. offered j (dec_lt j (length ls)) })
      (λ j l h le. (λ good. lower j l h good (dec_le (level ls j) l), λ up. (robust_list j l h).1 (only_higher j (level ls j) l up le (each j h).robust)))
    where
      offered : (j : ℕ) → Dec (j < length ls) → level ls j ≤ 2
      offered j (yes h) = (each j (omega arith)).offered
      offered j (no h) = omega (arith, level_beyond ls j h)

      lower : (j l : ℕ) → j < length js → RobustFor r js (set (tops (length js) 2) j l) → Dec (level ls j ≤ l) → level ls j ≤ l
      lower j l h good (yes le) = le
      lower j l h good (no nle) = absurd ((each j h).least l (omega arith) ((robust_list j l h).0 good))

  -- the number asked, counted from the levels
  pub asked_found : (ls : List ℕ) → Lowest (length js) 2 (RobustFor r js) ls → Asked (length js) 2 (RobustFor r js) (length js + above ls)
  asked_found = number_asked r (Paper r) (paper_lawful r) js

  module _ (j : ℕ) where
    -- SSI, where SI is too low
    pub at_ssi_lem : ¬ Robust r (Paper r) js (only j 1) → LowestOf r js j 2
    at_ssi_lem high = record { offered = omega arith; robust = all_ssi r (Paper r) (paper_lawful r) js (only j 2) (λ k _. at k (ℕ_discrete j k)); least = λ m h ok. high (only_higher j m 1 (omega arith) (omega arith) ok) }
      where
        at : (k : ℕ) → Dec (j ≡ k) → SSI (only j 2 k)
        at k (yes e) = rw (← e) (omega (arith, only_at j 2))
        at k (no ne) = omega (arith, only_other j 2 k ne)

    -- SI, where it is not and the job is split at RC
    pub at_si : Robust r (Paper r) js (only j 1) → IsSplit r js (only j 0) j → LowestOf r js j 1
    at_si ok s = record { offered = omega arith; robust = ok; least = λ m h low. only_higher j m 0 (omega arith) (omega arith) low j s.0 s.1 s.2 s.3 }

    -- SSI sees no difference between SI and RC, so RC is enough where the job is not split at RC itself
    pub at_rc : Robust r (Paper r) js (only j 1) → ¬ IsSplit r js (only j 0) j → LowestOf r js j 0
    at_rc ok whole = record { offered = omega arith; robust = λ t1 b1 t2 tm d. cases t1 b1 t2 tm d (ℕ_discrete j t1); least = λ m h. absurd (omega arith) }
      where
        ssi : (k : ℕ) → SSI (only j 1 k) → SSI (only j 0 k)
        ssi k h = at (ℕ_discrete j k)
          where
            at : Dec (j ≡ k) → SSI (only j 0 k)
            at (yes e) = absurd (omega (arith, ap (only j 1) e, only_at j 1))
            at (no ne) = omega (arith, only_other j 0 k ne)

        cases : (t1 b1 t2 tm : ℕ) → Danger r (Paper r) js (only j 0) t1 b1 t2 tm → Dec (j ≡ t1) → ⊥
        cases t1 b1 t2 tm d (yes e) = whole (b1, t2, tm, subst (λ (x : ℕ). Danger r (Paper r) js (only j 0) x b1 t2 tm) (sym e) d)
        cases t1 b1 t2 tm d (no ne) =
            ok t1 b1 t2 tm
            (relevel r (Paper r) (paper_lawful r) js (only j 1) d (omega (arith, only_other j 0 t1 ne)) (record {
              six = λ h. d.missed.six (ssi t1 h.0, ssi t2 h.1, ssi tm h.2);
              seven = λ h k. d.missed.seven (ssi t1 h) (ssi t2 k);
              eight = λ h k. d.missed.eight (ssi t1 h) (ssi tm k);
            }))
