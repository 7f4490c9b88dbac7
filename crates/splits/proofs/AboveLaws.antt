-- For t1 above RC a danger needs no operations: the jobs that are first for some operation, and those that are last, are told by t1's sets alone.
use Rattle.std.specs.Prelude.{◌≡◌, ◌↔◌, ◌⊎◌, Bool, ◌&&◌, not, List, ℕ, ◌≤◌, ◌<◌, T, drop}
use Rattle.std.proofs.Common.{inl, inr, arith}
use Rattle.theory.specs.Find.{some?}
use Rattle.theory.proofs.FindLaws.{some_alone, some_take, some_drop, meet_swap}
use Rattle.theory.specs.Danger.{Rule, Jobs, SSI, wr, clash, job, postfix, Some, None, Chain, Danger}
use Rattle.theory.proofs.DangerLaws.{none_whole, none_prefix, none_postfix}
use Rattle.theory.specs.Guards.{Paper}
use Rattle.conflicts.specs.Sets.{job_with}
use Rattle.splits.specs.Splits.{watch?, Parts, first?, last?, first_any?, last_any?}
use Rattle.splits.proofs.SplitsLaws.{less, with_means, none_means, unnoticed_means, Clear, first_means, last_means, danger_found}

module _ (r : Rule) (js : Jobs r) (lv : ℕ → ℕ) (t1 : ℕ) where
  -- the tests of first and last jobs that leave the operation out
  parts_any : (p q : r.Op → r.Op → Bool) (k : ℕ)
      → T ((job_with r js p t1 k && not (job_with r js r.ww t1 k)) && not (watch? lv t1 k && job_with r js q t1 k))
      ↔ (¬ (t1 ≡ k)) × Some r p (job r js t1) (job r js k) × None r r.ww (job r js t1) (job r js k) × (SSI (lv t1) → SSI (lv k) → None r q (job r js t1) (job r js k))
  parts_any p q k = (
    λ t. let s = (less (job_with r js p t1 k) (job_with r js r.ww t1 k) (watch? lv t1 k && job_with r js q t1 k)).0 t in let w = (with_means r js t1 p k).0 s.0 in
        (w.0, w.1, (none_means r js t1 r.ww k w.0).0 s.1, λ h l. (none_means r js t1 q k w.0).0 ((unnoticed_means lv t1 k (job_with r js q t1 k)).0 s.2 h l)),
    λ s. (less (job_with r js p t1 k) (job_with r js r.ww t1 k) (watch? lv t1 k && job_with r js q t1 k)).1 (
      (with_means r js t1 p k).1 (s.0, s.1),
      (none_means r js t1 r.ww k s.0).1 s.2,
      (unnoticed_means lv t1 k (job_with r js q t1 k)).1 (λ h l. (none_means r js t1 q k s.0).1 (s.3 h l)),
    ),
  )

  module _ (above : 1 ≤ lv t1) where
    clear_any : (b k : ℕ) → ¬ (t1 ≡ k) → Clear r js lv t1 b k ↔ None r r.ww (job r js t1) (job r js k)
    clear_any b k ne = (
      λ c. none_whole r r.ww b (job r js t1) (job r js k) c.two (c.three above),
      λ t. record { other = ne; two = none_prefix r r.ww b (job r js t1) (job r js k) t; three = λ _. none_postfix r r.ww b (job r js t1) (job r js k) t },
    )

    pub first_any : (k : ℕ) → ((b : ℕ) × T (first? r js lv t1 b k)) ↔ T (first_any? r js lv t1 k)
    first_any k = (
      λ h. let f = (first_means r js lv t1 h.0 k).0 h.1 in (parts_any r.rw (wr r) k).1 (
        f.clear.other,
        some_drop (λ x. some? (r.rw x) (job r js k)) h.0 (job r js t1) (some_take (λ x. some? (r.rw x) (job r js k)) 1 (drop h.0 (job r js t1)) f.four),
        (clear_any h.0 k f.clear.other).0 f.clear,
        f.seven,
      ),
      λ t. let s = (parts_any r.rw (wr r) k).0 t in let a = some_alone (λ x. some? (r.rw x) (job r js k)) (job r js t1) s.1 in
          (a.0, (first_means r js lv t1 a.0 k).1 (record { clear = (clear_any a.0 k s.0).1 s.2; four = a.1; seven = s.3 })),
    )

    pub last_any : (b k : ℕ) → T (last? r js lv t1 b k) ↔ T (last_any? r js lv t1 k)
    last_any b k = (
      λ t. let l = (last_means r js lv t1 b k).0 t in
          (parts_any (wr r) r.rw k).1 (l.clear.other, meet_swap r.rw (wr r) (λ x y h. h) (job r js k) (job r js t1) (back l.five), (clear_any b k l.clear.other).0 l.clear, l.eight),
      λ t. let s = (parts_any (wr r) r.rw k).0 t in
          (last_means r js lv t1 b k).1 (record { clear = (clear_any b k s.0).1 s.2; five = inl (meet_swap (wr r) r.rw (λ x y h. h) (job r js t1) (job r js k) s.1); eight = s.3 }),
    )
      where
        back : Some r r.rw (job r js k) (job r js t1) ⊎ ((lv t1 < 1) × Some r (clash r) (job r js k) (postfix r b (job r js t1))) → Some r r.rw (job r js k) (job r js t1)
        back (inl h) = h
        back (inr h) = absurd (omega (arith, h.0))

    -- some operation of t1 splits it, by chains from t2 to tm
    pub danger_any : (t2 tm : ℕ) → ((b : ℕ) × Danger r (Paper r) js lv t1 b t2 tm) ↔ Parts lv t1 (first_any? r js lv t1) (last_any? r js lv t1) t2 tm ((c : List ℕ) × Chain r js t1 t2 tm c)
    danger_any t2 tm = (
      λ d. let h = (danger_found r js lv t1 d.0 t2 tm).0 d.1 in ((first_any t2).0 (d.0, h.0), (last_any d.0 tm).0 h.1, h.2, h.3),
      λ h. let f = (first_any t2).1 h.0 in (f.0, (danger_found r js lv t1 f.0 t2 tm).1 (f.1, (last_any f.0 tm).1 h.1, h.2, h.3)),
    )
