-- Which jobs need SSI because job i can be split above RC, told from the jobs that may be first and last for it.
use Rattle.std.specs.Prelude.{◌≡◌, refl, ◌↔◌, ◌⊎◌, Bool, ◌&&◌, not, List, [], ℕ, ◌<◌, T, eqb}
use Rattle.std.proofs.Common.{sym, subst, inl, inr, arith, T_not}
use Rattle.std.proofs.Math.Decide.{ℕ_discrete}
use Rattle.std.proofs.Math.Dec.{not_T}
use Rattle.theory.specs.Find.{meet?}
use Rattle.theory.proofs.FindLaws.{passes, and_left, and_right, and_both}
use Rattle.theory.specs.Danger.{Rule, Jobs, wr, job, Danger}
use Rattle.theory.specs.Guards.{Paper}
use Rattle.jobset.specs.Jobset.{bit}
use Rattle.jobset.specs.JobsetLaws.{bit_lt, bit_none, digit}
use Rattle.chain.specs.Paths.{Path}
use Rattle.conflicts.specs.Sets.{Has, Sets, job_with}
use Rattle.splits.specs.Splits.{watch?, shut?, Parts, first_any?, last_any?}
use Rattle.splits.proofs.SplitsLaws.{apart, watch_means}
use Rattle.splits.proofs.HasLaws.{has_in, has_out}
use Rattle.splits.proofs.JoinedLaws.{later_known, path_back, danger_any_joined}
use Rattle.verdict.specs.Verdict.{IsSplit}
use Rattle.verdict.specs.Needed.{only, Hit, both, ahead, behind, NeededBy}
use Rattle.verdict.specs.OnlyLaws.{only_at, only_other}

-- a job that passes p and not w, and is not both watched and in q, is not watched, or not in q without w
unnoticed : (p q w s : Bool) → T ((p && not w) && not (s && q)) ↔ T (p && not w) × (T (not s) ⊎ T (not (q && not w)))
unnoticed p q w s = (λ t. (and_left (p && not w) (not (s && q)) t, out (passes s) (and_right (p && not w) (not (s && q)) t)), λ h. and_both (p && not w) (not (s && q)) h.0 (back h))
  where
    out : T s ⊎ T (not s) → T (not (s && q)) → T (not s) ⊎ T (not (q && not w))
    out (inl h) t = inr (not_T (q && not w) (λ u. T_not q ((apart s q).0 t h) (and_left q (not w) u)))
    out (inr h) t = inl h

    back : T (p && not w) × (T (not s) ⊎ T (not (q && not w))) → T (not (s && q))
    back (a, inl h) = (apart s q).1 (λ u. absurd (T_not s h u))
    back (a, inr h) = (apart s q).1 (λ u. not_T q (λ v. T_not (q && not w) h (and_both q (not w) v (and_right p (not w) a))))

module _ (r : Rule) (js : Jobs r) (i : ℕ) where
  -- job i stands in the relation with job k and is not ww with it
  abbrev pub clear? : (r.Op → r.Op → Bool) → ℕ → Bool
  clear? p k = job_with r js p i k && not (job_with r js r.ww i k)

  -- with i at SSI all jobs but j are watched
  watched_only : (j k : ℕ) → ¬ (j ≡ i) → ¬ (j ≡ k) → T (watch? (only j 1) i k)
  watched_only j k ni nk = (watch_means (only j 1) i k).1 (omega (arith, only_other j 1 i ni), omega (arith, only_other j 1 k nk))

  unwatched_only : (j : ℕ) → T (not (watch? (only j 1) i j))
  unwatched_only j = not_T (watch? (only j 1) i j) (λ t. let s = (watch_means (only j 1) i j).0 t in omega (arith, only_at j 1))

  -- with i at SI none is
  unwatched_si : (k : ℕ) → T (not (watch? (only i 1) i k))
  unwatched_si k = not_T (watch? (only i 1) i k) (λ t. let s = (watch_means (only i 1) i k).0 t in omega (arith, only_at i 1))

  -- conditions 7 and 8 for a job k of the set a, where only job j is not at SSI: it is j, or not in b
  module _ (p q : r.Op → r.Op → Bool) (a b : ℕ)
      (ha : Has a (clear? p)) (hb : Has b (clear? q)) where
    open_only : (j k : ℕ) → ¬ (j ≡ i)
        → T (clear? p k && not (watch? (only j 1) i k && job_with r js q i k))
        ↔ (bit a k ≡ 1) × ((j ≡ k) ⊎ (bit b k ≡ 0))
    open_only j k ni = (λ t. let s = parts.0 t in (in_a.1 s.0, out s.1 (ℕ_discrete j k)), λ h. parts.1 (in_a.0 h.0, back h.1))
      where
        parts : T (clear? p k && not (watch? (only j 1) i k && job_with r js q i k))
            ↔ T (clear? p k) × (T (not (watch? (only j 1) i k)) ⊎ T (not (clear? q k)))
        parts = unnoticed (job_with r js p i k) (job_with r js q i k) (job_with r js r.ww i k) (watch? (only j 1) i k)

        in_a : (bit a k ≡ 1) ↔ T (clear? p k)
        in_a = has_in a (clear? p) ha k

        out_b : (bit b k ≡ 0) ↔ T (not (clear? q k))
        out_b = has_out b (clear? q) hb k

        out : T (not (watch? (only j 1) i k)) ⊎ T (not (clear? q k)) → Dec (j ≡ k) → (j ≡ k) ⊎ (bit b k ≡ 0)
        out s (yes e) = inl e
        out (inl h) (no ne) = absurd (T_not (watch? (only j 1) i k) h (watched_only j k ni ne))
        out (inr h) (no ne) = inr (out_b.1 h)

        back : (j ≡ k) ⊎ (bit b k ≡ 0) → T (not (watch? (only j 1) i k)) ⊎ T (not (clear? q k))
        back (inl e) = inl (rw (← e) (unwatched_only j))
        back (inr h) = inr (out_b.0 h)

    -- and where i is at SI they are free
    open_si : (k : ℕ) → T (clear? p k && not (watch? (only i 1) i k && job_with r js q i k)) ↔ (bit a k ≡ 1)
    open_si k = (
      λ t. in_a.1 (and_left (clear? p k) (not (watch? (only i 1) i k && job_with r js q i k)) t),
      λ e. and_both (clear? p k) (not (watch? (only i 1) i k && job_with r js q i k)) (in_a.0 e) ((apart (watch? (only i 1) i k) (job_with r js q i k)).1 (λ u. absurd (T_not (watch? (only i 1) i k) (unwatched_si k) u))),
    )
      where
        in_a : (bit a k ≡ 1) ↔ T (clear? p k)
        in_a = has_in a (clear? p) ha k

  module _ {kind writers ww_of rw_of wr_of clash_of : List ℕ} (s : Sets r js kind writers ww_of rw_of wr_of clash_of)
      (shut first last : ℕ) (hs : Has shut (shut? r js i)) (hf : Has first (clear? r.rw)) (hl : Has last (clear? (wr r))) where
    abbrev Hits : ℕ → Type 0
    Hits = Hit clash_of shut first last

    -- a danger for i under these levels
    abbrev Found : (ℕ → ℕ) → ℕ → ℕ → Type 0
    Found lv t2 tm = Parts lv i (first_any? r js lv i) (last_any? r js lv i) t2 tm ((c : List ℕ) × Path clash_of shut t2 tm c)

    small : (p : r.Op → r.Op → Bool) (a : ℕ) → Has a (clear? p) → (k : ℕ) → bit a k ≡ 1 → k < 32
    small p a ha k e =
        let t = and_left (job_with r js p i k) (not (job_with r js r.ww i k)) ((has_in a (clear? p) ha k).0 e) in
        omega (arith, later_known r js p (job r js i) k (and_right (not (eqb i k)) (meet? p (job r js i) (job r js k)) t), s.few)

    turn : (t2 tm : ℕ) (c : List ℕ) → bit first t2 ≡ 1 → bit last tm ≡ 1 → Path clash_of shut t2 tm c → (d : List ℕ) × Path clash_of shut tm t2 d
    turn t2 tm c f l = path_back r js s i shut hs t2 tm c (small r.rw first hf t2 f) (small (wr r) last hl tm l)

    turn_back : (t2 tm : ℕ) (c : List ℕ) → bit first t2 ≡ 1 → bit last tm ≡ 1 → Path clash_of shut tm t2 c → (d : List ℕ) × Path clash_of shut t2 tm d
    turn_back t2 tm c f l = path_back r js s i shut hs tm t2 c (small (wr r) last hl tm l) (small r.rw first hf t2 f)

    -- where every other job is at SSI, job j is the first or the last of each danger for i at SSI
    module _ (j : ℕ) (ni : ¬ (j ≡ i)) where
      firsts : (k : ℕ) → T (first_any? r js (only j 1) i k) ↔ (bit first k ≡ 1) × ((j ≡ k) ⊎ (bit last k ≡ 0))
      firsts k = open_only r.rw (wr r) first last hf hl j k ni

      lasts : (k : ℕ) → T (last_any? r js (only j 1) i k) ↔ (bit last k ≡ 1) × ((j ≡ k) ⊎ (bit first k ≡ 0))
      lasts k = open_only (wr r) r.rw last first hl hf j k ni

      danger : (t2 tm : ℕ) → ((b : ℕ) × Danger r (Paper r) js (only j 1) i b t2 tm) ↔ Found (only j 1) t2 tm
      danger = danger_any_joined r js s i shut hs (only j 1) (omega (arith, only_other j 1 i ni))

      split_hit : IsSplit r js (only j 1) i → Hits j
      split_hit d = cases d.1 d.2 ((danger d.1 d.2).0 (d.0, d.3)) (ℕ_discrete j d.1) (ℕ_discrete j d.2)
        where
          other : {k : ℕ} {P : Type 0} → ¬ (j ≡ k) → (j ≡ k) ⊎ P → P
          other ne (inl e) = absurd (ne e)
          other ne (inr p) = p

          cases : (t2 tm : ℕ) → Found (only j 1) t2 tm → Dec (j ≡ t2) → Dec (j ≡ tm) → Hits j
          cases t2 tm h (yes e) (yes e') = both (rw e ((firsts t2).0 h.0).0) (rw e' ((lasts tm).0 h.1).0)
          cases t2 tm h (yes e) (no ne) =
              let f = (firsts t2).0 h.0 in
              let l = (lasts tm).0 h.1 in
              let p = turn t2 tm h.3.0 f.0 l.0 h.3.1 in
              ahead tm p.0 (rw e f.0) l.0 (other ne l.1) (subst (λ (x : ℕ). Path clash_of shut tm x p.0) (sym e) p.1)
          cases t2 tm h (no ne) (yes e) =
              let f = (firsts t2).0 h.0 in
              behind t2 h.3.0 (rw e ((lasts tm).0 h.1).0) f.0 (other ne f.1) (rw e h.3.1)
          cases t2 tm h (no ne) (no ne') = absurd (h.2 (watched_only j t2 ni ne, watched_only j tm ni ne'))

      hit_split : Hits j → IsSplit r js (only j 1) i
      hit_split h = made h
        where
          found : (t2 tm : ℕ) (c : List ℕ) → (bit first t2 ≡ 1) × ((j ≡ t2) ⊎ (bit last t2 ≡ 0)) → (bit last tm ≡ 1) × ((j ≡ tm) ⊎ (bit first tm ≡ 0))
              → (¬ (T (watch? (only j 1) i t2) × T (watch? (only j 1) i tm))) → Path clash_of shut t2 tm c → IsSplit r js (only j 1) i
          found t2 tm c f l six p = let d = (danger t2 tm).1 ((firsts t2).1 f, (lasts tm).1 l, six, (c, p)) in (d.0, t2, tm, d.1)

          low : T (watch? (only j 1) i j) → ⊥
          low = T_not (watch? (only j 1) i j) (unwatched_only j)

          made : Hits j → IsSplit r js (only j 1) i
          made (both f l) = found j j [] (f, inl refl) (l, inl refl) (λ w. low w.0) refl
          made (ahead k c f l nf p) = let q = turn_back j k c f l p in found j k q.0 (f, inl refl) (l, inr nf) (λ w. low w.0) q.1
          made (behind k c l f nl p) = found k j c (f, inr nl) (l, inl refl) (λ w. low w.1) p

    -- i at SI, all others at SSI, is split exactly if some job is hit
    danger_si : (t2 tm : ℕ) → ((b : ℕ) × Danger r (Paper r) js (only i 1) i b t2 tm) ↔ Found (only i 1) t2 tm
    danger_si = danger_any_joined r js s i shut hs (only i 1) (omega (arith, only_at i 1))

    si_hit : IsSplit r js (only i 1) i → (j : ℕ) × Hits j
    si_hit d = cases (digit _ (bit_lt last t2)) (digit _ (bit_lt first tm))
      where
        t2 : ℕ
        t2 = d.1

        tm : ℕ
        tm = d.2

        h : Found (only i 1) t2 tm
        h = (danger_si t2 tm).0 (d.0, d.3)

        f : bit first t2 ≡ 1
        f = (open_si r.rw (wr r) first last hf hl t2).0 h.0

        l : bit last tm ≡ 1
        l = (open_si (wr r) r.rw last first hl hf tm).0 h.1

        cases : (bit last t2 ≡ 0) ⊎ (bit last t2 ≡ 1) → (bit first tm ≡ 0) ⊎ (bit first tm ≡ 1) → (j : ℕ) × Hits j
        cases (inr e) q = (t2, both f e)
        cases (inl e) (inr e') = (tm, both e' l)
        cases (inl e) (inl e') = (tm, behind t2 h.3.0 l f e h.3.1)

    hit_si : (j : ℕ) → Hits j → IsSplit r js (only i 1) i
    hit_si j h = made h
      where
        found : (t2 tm : ℕ) (c : List ℕ) → bit first t2 ≡ 1 → bit last tm ≡ 1 → Path clash_of shut t2 tm c → IsSplit r js (only i 1) i
        found t2 tm c f l p =
            let d = (danger_si t2 tm).1 ((open_si r.rw (wr r) first last hf hl t2).1 f, (open_si (wr r) r.rw last first hl hf tm).1 l, λ w. T_not (watch? (only i 1) i t2) (unwatched_si t2) w.0, (c, p)) in
            (d.0, t2, tm, d.1)

        made : Hits j → IsSplit r js (only i 1) i
        made (both f l) = found j j [] f l refl
        made (ahead k c f l nf p) = let q = turn_back j k c f l p in found j k q.0 f l q.1
        made (behind k c l f nl p) = found k j c f l p

    -- no job needs SSI because of i if none is hit; otherwise those that are hit and i do
    pub needed_none : ((j : ℕ) → ¬ Hits j) → NeededBy r js i 0
    needed_none none j = (λ e. absurd (omega (arith, bit_none j)), λ d. absurd (cases d (ℕ_discrete j i)))
      where
        cases : IsSplit r js (only j 1) i → Dec (j ≡ i) → ⊥
        cases d (yes e) = let h = si_hit (subst (λ (x : ℕ). IsSplit r js (only x 1) i) e d) in none h.0 h.1
        cases d (no ne) = none j (split_hit j ne d)

    pub needed_some : (m k : ℕ) → Hits k → ((j : ℕ) → (bit m j ≡ 1) ↔ ((i ≡ j) ⊎ Hits j)) → NeededBy r js i m
    needed_some m k hit has j = (λ e. yea (ℕ_discrete j i) ((has j).0 e), λ d. (has j).1 (nay d (ℕ_discrete j i)))
      where
        yea : Dec (j ≡ i) → (i ≡ j) ⊎ Hits j → IsSplit r js (only j 1) i
        yea (yes e) q = subst (λ (x : ℕ). IsSplit r js (only x 1) i) (sym e) (hit_si k hit)
        yea (no ne) (inl e) = absurd (ne (sym e))
        yea (no ne) (inr h) = hit_split j ne h

        nay : IsSplit r js (only j 1) i → Dec (j ≡ i) → (i ≡ j) ⊎ Hits j
        nay d (yes e) = inl (sym e)
        nay d (no ne) = inr (split_hit j ne d)
