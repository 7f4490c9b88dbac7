-- The jobs that are hit, and those that need SSI, as sets.
use mathlib.Core.Path.{◌≡◌, sym, subst, ◌∙◌}
use mathlib.Core.Bool.{Bool, true, false, ◌&&◌, not}
use mathlib.Core.Logic.{◌↔◌, ◌⊎◌, inl, inr}
use mathlib.Core.List.{List}
use Prim.Native.Nat.{ℕ, ◌+◌, ◌-◌, ◌^◌, ◌<◌, min, max}
use native.Mathlib.Omega.{arith}
use native.Mathlib.Decide.{ℕ_discrete}
use lib.Dec.{eqb}
use borrow.Author.Tests.{eqb-true, eqb-false}
use lib.ListN.{length, get_or}
use Rattle.jobset.specs.Jobset.{bit, one}
use Rattle.jobset.specs.JobsetLaws.{bit_lt, bit_none, digit, single_is, single_has, one_lt, some_member, member_pos}
use Rattle.theory.specs.Danger.{Rule, Jobs, wr}
use Rattle.theory.specs.Guards.{Paper}
use Rattle.theory.proofs.KnownLaws.{t1_known}
use Rattle.chain.specs.Paths.{Joined}
use Rattle.conflicts.specs.Sets.{Has, Sets, job_with}
use Rattle.splits.specs.Splits.{shut?}
use Rattle.verdict.specs.Verdict.{IsSplit}
use Rattle.verdict.specs.Needed.{only, Hit, both, ahead, behind, NeededBy, Needed}
use Rattle.verdict.specs.NeededLaws.{needed_none, needed_some}
use Rattle.verdict.proofs.SplitLaws.{has_less}

-- a job is in a union where it is in one of the sets
in_union : (a b m : ℕ) → a < 2 → b < 2 → m ≡ max a b → (m ≡ 1) ↔ ((a ≡ 1) ⊎ (b ≡ 1))
in_union a b m la lb e = (λ f. elim (digit a la) [ inl z ↦ inr (omega arith) | inr o ↦ inl o ], λ q. elim q [ inl o ↦ omega arith | inr o ↦ omega arith ])

in_both : (a b m : ℕ) → m ≡ min a b → m ≡ 1 → a < 2 → b < 2 → (a ≡ 1) × (b ≡ 1)
in_both a b m e f la lb = omega arith

-- jobs that are in one set and not in another
in_less : (a b m : ℕ) → m ≡ a - b → m ≡ 1 → a < 2 → (a ≡ 1) × (b ≡ 0)
in_less a b m e f la = omega arith

-- what the test of a member tells
pub is_in : (m k : ℕ) (b : Bool) → b ≡ eqb (bit m k) 1 → b ≡ true → bit m k ≡ 1
is_in m k b e t = eqb-true _ _ (sym e ∙ t)

pub is_out : (m k : ℕ) (b : Bool) → b ≡ eqb (bit m k) 1 → b ≡ false → bit m k ≡ 0
is_out m k b e t = elim (digit _ (bit_lt m k)) [ inl z ↦ z | inr o ↦ absurd (eqb-false _ _ (sym e ∙ t) o) ]

-- a set with a job added
pub in_with : (m r i : ℕ) → ((k : ℕ) → bit r k ≡ max (bit m k) (one (eqb i k))) → (j : ℕ) → (bit r j ≡ 1) ↔ ((i ≡ j) ⊎ (bit m j ≡ 1))
in_with m r i e j =
    let iff = in_union (bit m j) (one (eqb i j)) (bit r j) (bit_lt m j) (one_lt (eqb i j)) (e j) in
    (λ f. elim (iff.0 f) [ inl o ↦ inr o | inr o ↦ inl (single_is i j o) ], λ q. elim q [ inl s ↦ iff.1 (inr (subst (λ (x : ℕ). one (eqb i x) ≡ 1) s (single_has i))) | inr o ↦ iff.1 (inl o) ])

module _ (clash_of : List ℕ) (shut first last : ℕ) where
  hit_first : (j : ℕ) → Hit clash_of shut first last j → 0 < first
  hit_first j (both f l) = member_pos first j f
  hit_first j (ahead k c f l nf p) = member_pos first j f
  hit_first j (behind k c l f nl p) = member_pos first k f

  hit_last : (j : ℕ) → Hit clash_of shut first last j → 0 < last
  hit_last j (both f l) = member_pos last j l
  hit_last j (ahead k c f l nf p) = member_pos last k l
  hit_last j (behind k c l f nl p) = member_pos last j l

  -- no job is hit where there is no first or no last job
  pub no_hit : (first ≡ 0) ⊎ ((first ≡ 0 → ⊥) × (last ≡ 0)) → (j : ℕ) → (bit 0 j ≡ 1) ↔ Hit clash_of shut first last j
  no_hit none j = (λ e. absurd (omega (arith, bit_none j)), λ h. absurd (elim none [ inl e ↦ omega (arith, hit_first j h) | inr e ↦ omega (arith, hit_last j h, e.1) ]))

  -- the jobs of both sets, the last ones that a spread from first jobs alone reaches, and the first ones from last jobs alone
  module _ (from_first from_last reach_first reach_last lasts firsts pairs ends all : ℕ)
      (in_from_first : (k : ℕ) → bit from_first k ≡ bit first k - bit last k) (first_spread : Joined clash_of shut from_first reach_first) (in_lasts : (k : ℕ) → bit lasts k ≡ min (bit reach_first k) (bit last k))
      (in_from_last : (k : ℕ) → bit from_last k ≡ bit last k - bit first k) (last_spread : Joined clash_of shut from_last reach_last) (in_firsts : (k : ℕ) → bit firsts k ≡ min (bit reach_last k) (bit first k))
      (in_pairs : (k : ℕ) → bit pairs k ≡ min (bit first k) (bit last k)) (in_ends : (k : ℕ) → bit ends k ≡ max (bit lasts k) (bit firsts k)) (in_all : (k : ℕ) → bit all k ≡ max (bit pairs k) (bit ends k)) where
    pub hit_means : (j : ℕ) → (bit all j ≡ 1) ↔ Hit clash_of shut first last j
    hit_means j = (λ e. hit (every.0 e), λ h. every.1 (found h))
      where
        every : (bit all j ≡ 1) ↔ ((bit pairs j ≡ 1) ⊎ (bit ends j ≡ 1))
        every = in_union (bit pairs j) (bit ends j) (bit all j) (bit_lt pairs j) (bit_lt ends j) (in_all j)

        end : (bit ends j ≡ 1) ↔ ((bit lasts j ≡ 1) ⊎ (bit firsts j ≡ 1))
        end = in_union (bit lasts j) (bit firsts j) (bit ends j) (bit_lt lasts j) (bit_lt firsts j) (in_ends j)

        hit_end : (bit lasts j ≡ 1) ⊎ (bit firsts j ≡ 1) → Hit clash_of shut first last j
        hit_end (inl e) =
            let l = in_both _ _ _ (in_lasts j) e (bit_lt reach_first j) (bit_lt last j) in
            let p = first_spread.sound j l.0 in
            let f = in_less _ _ _ (in_from_first p.0) p.2 (bit_lt first p.0) in
            behind p.0 p.1 l.1 f.0 f.1 p.3
        hit_end (inr e) =
            let f = in_both _ _ _ (in_firsts j) e (bit_lt reach_last j) (bit_lt first j) in
            let p = last_spread.sound j f.0 in
            let l = in_less _ _ _ (in_from_last p.0) p.2 (bit_lt last p.0) in
            ahead p.0 p.1 f.1 l.0 l.1 p.3

        hit : (bit pairs j ≡ 1) ⊎ (bit ends j ≡ 1) → Hit clash_of shut first last j
        hit (inl e) = let q = in_both _ _ _ (in_pairs j) e (bit_lt first j) (bit_lt last j) in both q.0 q.1
        hit (inr e) = hit_end (end.0 e)

        found : Hit clash_of shut first last j → (bit pairs j ≡ 1) ⊎ (bit ends j ≡ 1)
        found (both f l) = inl (omega (arith, in_pairs j))
        found (ahead k c f l nf p) = let e = last_spread.whole k j c (omega (arith, in_from_last k)) p in inr (end.1 (inr (omega (arith, in_firsts j))))
        found (behind k c l f nl p) = let e = first_spread.whole k j c (omega (arith, in_from_first k)) p in inr (end.1 (inl (omega (arith, in_lasts j))))

-- the jobs that need SSI because of t1, by the sets of t1 alone
module _ (r : Rule) (js : Jobs r) {kind writers ww_of rw_of wr_of clash_of : List ℕ} (s : Sets r js kind writers ww_of rw_of wr_of clash_of)
    (t1 shut : ℕ) (small : t1 < 32) (h : Has shut (shut? r js t1)) (first last hit : ℕ)
    (first_is : (k : ℕ) → bit first k ≡ bit (get_or rw_of t1 0) k - bit (get_or ww_of t1 0) k)
    (last_is : (k : ℕ) → bit last k ≡ bit (get_or wr_of t1 0) k - bit (get_or ww_of t1 0) k)
    (hit_is : (j : ℕ) → (bit hit j ≡ 1) ↔ Hit clash_of shut first last j)
  where
    firsts : Has first (λ k. job_with r js r.rw t1 k && not (job_with r js r.ww t1 k))
    firsts = has_less _ _ first _ _ (s.job_rw t1 small) (s.job_ww t1 small) first_is

    lasts : Has last (λ k. job_with r js (wr r) t1 k && not (job_with r js r.ww t1 k))
    lasts = has_less _ _ last _ _ (s.job_wr t1 small) (s.job_ww t1 small) last_is

    pub none_needed : hit ≡ 0 → NeededBy r js t1 0
    none_needed z = needed_none r js t1 s shut first last h firsts lasts (λ j d. omega (arith, member_pos hit j ((hit_is j).1 d), z))

    pub some_needed : (m : ℕ) → 0 < hit → hit < 2 ^ 32 → ((k : ℕ) → bit m k ≡ max (bit hit k) (one (eqb t1 k))) → NeededBy r js t1 m
    some_needed m some few m_is =
        let one_hit = some_member 32 hit some few in
        needed_some r js t1 s shut first last h firsts lasts m one_hit.0 ((hit_is one_hit.0).0 one_hit.2) (λ j. let has = in_with hit m t1 m_is j in (
          λ e. elim (has.0 e) [ inl d ↦ inl d | inr f ↦ inr ((hit_is j).0 f) ],
          λ q. has.1 (elim q [ inl d ↦ inl d | inr f ↦ inr ((hit_is j).1 f) ]),
        ))

module _ (r : Rule) (js : Jobs r) where
  -- the jobs that need SSI because one of the first n jobs can be split
  abbrev pub NeededUpto : ℕ → ℕ → Type 0
  NeededUpto n m = (j : ℕ) → (bit m j ≡ 1) ↔ ((i : ℕ) × (i < n) × IsSplit r js (only j 1) i)

  pub needed_start : NeededUpto 0 0
  needed_start j = (λ e. absurd (omega (arith, bit_none j)), λ q. absurd (omega (arith, q.1)))

  pub needed_next : (n a b m : ℕ) → NeededUpto n a → NeededBy r js n b → ((k : ℕ) → bit m k ≡ max (bit a k) (bit b k)) → NeededUpto (n + 1) m
  needed_next n a b m upto by e j = (λ f. yea (iff.0 f), λ q. iff.1 (nay q (ℕ_discrete q.0 n)))
    where
      iff : (bit m j ≡ 1) ↔ ((bit a j ≡ 1) ⊎ (bit b j ≡ 1))
      iff = in_union (bit a j) (bit b j) (bit m j) (bit_lt a j) (bit_lt b j) (e j)

      yea : (bit a j ≡ 1) ⊎ (bit b j ≡ 1) → (i : ℕ) × (i < n + 1) × IsSplit r js (only j 1) i
      yea (inl f) = let q = (upto j).0 f in (q.0, omega (arith, q.1), q.2)
      yea (inr f) = (n, omega arith, (by j).0 f)

      nay : (q : (i : ℕ) × (i < n + 1) × IsSplit r js (only j 1) i) → Dec (q.0 ≡ n) → (bit a j ≡ 1) ⊎ (bit b j ≡ 1)
      nay q (yes d) = inr ((by j).1 (subst (IsSplit r js (only j 1)) d q.2))
      nay q (no ne) = inl ((upto j).1 (q.0, omega (arith, q.1), q.2))

  pub needed_all : (n m : ℕ) → length js ≡ n → NeededUpto n m → Needed r js m
  needed_all n m e upto = record {
    yes = λ j f ok. let q = (upto j).0 f in ok q.0 q.2.0 q.2.1 q.2.2 q.2.3;
    no = λ j f t1 b1 t2 tm d. omega (arith, (upto j).1 (t1, omega (arith, t1_known r (Paper r) js d), (b1, t2, tm, d)));
  }
