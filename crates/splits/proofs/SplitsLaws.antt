-- A danger is a first job, a last job and a chain between them: conditions 2 to 8 sort themselves into what T2, what Tm and what both must meet.
use Rattle.std.specs.Prelude.{◌≡◌, ◌↔◌, ◌⊎◌, Bool, ◌&&◌, ◌||◌, not, List, ℕ, ◌≤◌, ◌<◌, T, leb, ltb, eqb}
use Rattle.std.proofs.Common.{inl, inr, T_not, leb→le, le→leb, ltb→lt, lt→ltb}
use Rattle.std.proofs.Math.Dec.{not_T}
use Rattle.theory.specs.Find.{meet?}
use Rattle.theory.proofs.FindLaws.{and_left, and_right, and_both, or_left, or_right, or_cases, nor_left, nor_right, nor_both, unequal, differ}
use Rattle.theory.proofs.KnownLaws.{t2_apart, tm_apart}
use Rattle.theory.specs.Danger.{Rule, Jobs, SSI, wr, clash, job, alone, prefix, postfix, Some, None, Chain, Danger}
use Rattle.theory.specs.Guards.{Paper}
use Rattle.conflicts.specs.Sets.{job_with}
use Rattle.splits.specs.Splits.{watch?, Parts, closed?, first?, return?, last?}

-- one that passes and is in neither of two others
pub less : (a b c : Bool) → T ((a && not b) && not c) ↔ T a × T (not b) × T (not c)
less a b c = (
  λ t. let s = and_left (a && not b) (not c) t in (and_left a (not b) s, and_right a (not b) s, and_right (a && not b) (not c) t),
  λ h. and_both (a && not b) (not c) (and_both a (not b) h.0 h.1) h.2,
)

-- two do not pass together
pub apart : (a b : Bool) → T (not (a && b)) ↔ (T a → T (not b))
apart a b = (λ t s. not_T b (λ u. T_not (a && b) t (and_both a b s u)), λ f. not_T (a && b) (λ t. T_not b (f (and_left a b t)) (and_right a b t)))

-- job t1 and another
module _ (r : Rule) (js : Jobs r) (t1 : ℕ) where
  pub with_means : (p : r.Op → r.Op → Bool) (k : ℕ) → T (job_with r js p t1 k) ↔ (¬ (t1 ≡ k)) × Some r p (job r js t1) (job r js k)
  with_means p k = (
    λ t. (differ t1 k (and_left (not (eqb t1 k)) meets t), and_right (not (eqb t1 k)) meets t),
    λ h. and_both (not (eqb t1 k)) meets (unequal t1 k h.0) h.1,
  )
    where
      meets : Bool
      meets = meet? p (job r js t1) (job r js k)

  pub none_means : (p : r.Op → r.Op → Bool) (k : ℕ) → ¬ (t1 ≡ k) → T (not (job_with r js p t1 k)) ↔ None r p (job r js t1) (job r js k)
  none_means p k ne = (λ t. (apart (not (eqb t1 k)) meets).0 t (unequal t1 k ne), λ t. (apart (not (eqb t1 k)) meets).1 (λ _. t))
    where
      meets : Bool
      meets = meet? p (job r js t1) (job r js k)

module _ (lv : ℕ → ℕ) (t1 : ℕ) where
  pub watch_means : (k : ℕ) → T (watch? lv t1 k) ↔ SSI (lv t1) × SSI (lv k)
  watch_means k = (
    λ t. (leb→le 2 (lv t1) (and_left (leb 2 (lv t1)) (leb 2 (lv k)) t), leb→le 2 (lv k) (and_right (leb 2 (lv t1)) (leb 2 (lv k)) t)),
    λ h. and_both (leb 2 (lv t1)) (leb 2 (lv k)) (le→leb 2 (lv t1) h.0) (le→leb 2 (lv k) h.1),
  )

  -- conditions 7 and 8
  pub unnoticed_means : (k : ℕ) (q : Bool) → T (not (watch? lv t1 k && q)) ↔ (SSI (lv t1) → SSI (lv k) → T (not q))
  unnoticed_means k q = (
    λ t h l. (apart (watch? lv t1 k) q).0 t ((watch_means k).1 (h, l)),
    λ f. (apart (watch? lv t1 k) q).1 (λ w. let s = (watch_means k).0 w in f s.0 s.1),
  )

module _ (r : Rule) (js : Jobs r) (lv : ℕ → ℕ) (t1 b : ℕ) where
  -- conditions 2 and 3 of one job, which is not t1
  pub record Clear (k : ℕ) : Type 0 where
    pub other : ¬ (t1 ≡ k)
    pub two : None r r.ww (prefix r b (job r js t1)) (job r js k)
    pub three : 1 ≤ lv t1 → None r r.ww (postfix r b (job r js t1)) (job r js k)

  pub clear_means : (k : ℕ) → T (not (closed? r js lv t1 b k)) ↔ Clear k
  clear_means k = (
    λ t. let s = nor_right self (early || (leb 1 (lv t1) && late)) t in record {
      other = differ t1 k (nor_left self (early || (leb 1 (lv t1) && late)) t);
      two = nor_left early (leb 1 (lv t1) && late) s;
      three = λ h. (apart (leb 1 (lv t1)) late).0 (nor_right early (leb 1 (lv t1) && late) s) (le→leb 1 (lv t1) h);
    },
    λ c. nor_both self (early || (leb 1 (lv t1) && late)) (unequal t1 k c.other)
        (nor_both early (leb 1 (lv t1) && late) c.two ((apart (leb 1 (lv t1)) late).1 (λ t. c.three (leb→le 1 (lv t1) t)))),
  )
    where
      self : Bool
      self = eqb t1 k

      early : Bool
      early = meet? r.ww (prefix r b (job r js t1)) (job r js k)

      late : Bool
      late = meet? r.ww (postfix r b (job r js t1)) (job r js k)

  -- condition 5
  pub return_means : (k : ℕ) → T (return? r js lv t1 b k) ↔ (Some r r.rw (job r js k) (job r js t1) ⊎ ((lv t1 < 1) × Some r (clash r) (job r js k) (postfix r b (job r js t1))))
  return_means k = (
    λ t. elim (or_cases back (ltb (lv t1) 1 && late) t) [ inl h ↦ inl h | inr h ↦ inr (ltb→lt (lv t1) 1 (and_left (ltb (lv t1) 1) late h), and_right (ltb (lv t1) 1) late h) ],
    λ h. elim h [ inl s ↦ or_left back (ltb (lv t1) 1 && late) s | inr s ↦ or_right back (ltb (lv t1) 1 && late) (and_both (ltb (lv t1) 1) late (lt→ltb (lv t1) 1 s.0) s.1) ],
  )
    where
      back : Bool
      back = meet? r.rw (job r js k) (job r js t1)

      late : Bool
      late = meet? (clash r) (job r js k) (postfix r b (job r js t1))

  -- conditions 2 to 4 and 7 of T2
  pub record Begins (k : ℕ) : Type 0 where
    pub clear : Clear k
    pub four : Some r r.rw (alone r b (job r js t1)) (job r js k)
    pub seven : SSI (lv t1) → SSI (lv k) → None r (wr r) (job r js t1) (job r js k)

  pub first_means : (k : ℕ) → T (first? r js lv t1 b k) ↔ Begins k
  first_means k = (
    λ t. let s = parts.0 t in record { clear = (clear_means k).0 s.1; four = s.0; seven = (unnoticed_means lv t1 k noticed).0 s.2 },
    λ f. parts.1 (f.four, (clear_means k).1 f.clear, (unnoticed_means lv t1 k noticed).1 f.seven),
  )
    where
      noticed : Bool
      noticed = meet? (wr r) (job r js t1) (job r js k)

      parts : T (first? r js lv t1 b k) ↔ Some r r.rw (alone r b (job r js t1)) (job r js k) × T (not (closed? r js lv t1 b k)) × T (not (watch? lv t1 k && noticed))
      parts = less (meet? r.rw (alone r b (job r js t1)) (job r js k)) (closed? r js lv t1 b k) (watch? lv t1 k && noticed)

  -- conditions 2, 3, 5 and 8 of Tm
  pub record Ends (k : ℕ) : Type 0 where
    pub clear : Clear k
    pub five : Some r r.rw (job r js k) (job r js t1) ⊎ ((lv t1 < 1) × Some r (clash r) (job r js k) (postfix r b (job r js t1)))
    pub eight : SSI (lv t1) → SSI (lv k) → None r r.rw (job r js t1) (job r js k)

  pub last_means : (k : ℕ) → T (last? r js lv t1 b k) ↔ Ends k
  last_means k = (
    λ t. let s = parts.0 t in record { clear = (clear_means k).0 s.1; five = (return_means k).0 s.0; eight = (unnoticed_means lv t1 k noticed).0 s.2 },
    λ f. parts.1 ((return_means k).1 f.five, (clear_means k).1 f.clear, (unnoticed_means lv t1 k noticed).1 f.eight),
  )
    where
      noticed : Bool
      noticed = meet? r.rw (job r js t1) (job r js k)

      parts : T (last? r js lv t1 b k) ↔ T (return? r js lv t1 b k) × T (not (closed? r js lv t1 b k)) × T (not (watch? lv t1 k && noticed))
      parts = less (return? r js lv t1 b k) (closed? r js lv t1 b k) (watch? lv t1 k && noticed)

  pub danger_found : (t2 tm : ℕ) → Danger r (Paper r) js lv t1 b t2 tm ↔ Parts lv t1 (first? r js lv t1 b) (last? r js lv t1 b) t2 tm ((c : List ℕ) × Chain r js t1 t2 tm c)
  danger_found t2 tm = (
    λ d. (
      (first_means t2).1 (record { clear = record { other = t2_apart r (Paper r) js d; two = d.split.two.0; three = λ h. (d.split.three h).0 }; four = d.split.four; seven = d.missed.seven }),
      (last_means tm).1 (record { clear = record { other = tm_apart r (Paper r) js d; two = d.split.two.1; three = λ h. (d.split.three h).1 }; five = d.split.five; eight = d.missed.eight }),
      λ w. let h = (watch_means lv t1 t2).0 w.0 in d.missed.six (h.0, h.1, ((watch_means lv t1 tm).0 w.1).1),
      (d.rest, d.chain),
    ),
    λ h. let f = (first_means t2).0 h.0 in let l = (last_means tm).0 h.1 in record {
      split = record { two = (f.clear.two, l.clear.two); three = λ q. (f.clear.three q, l.clear.three q); four = f.four; five = l.five };
      missed = record { six = λ s. h.2 ((watch_means lv t1 t2).1 (s.0, s.1), (watch_means lv t1 tm).1 (s.0, s.2)); seven = f.seven; eight = l.eight };
      rest = h.3.0;
      chain = h.3.1;
    },
  )
