-- Chains are what paths by sets of jobs find: a danger is a first and a last job that a path joins.
use Rattle.std.specs.Prelude.{◌≡◌, ◌↔◌, ◌⊎◌, Bool, not, List, [], ◌∷◌, ℕ, ◌^◌, ◌≤◌, ◌<◌, T, eqb, length, get_or}
use Rattle.std.proofs.Common.{sym, ap, subst, inl, inr, arith}
use Rattle.theory.specs.Find.{some?}
use Rattle.theory.proofs.FindLaws.{and_left, and_right, nor_left, nor_right, nor_both, unequal, differ, meet_first, meet_second}
use Rattle.theory.specs.Danger.{Rule, Jobs, clash, job, alone, postfix, Some, conflict?, free?, distinct?, Chain, Danger}
use Rattle.theory.proofs.DangerLaws.{conflict_sym}
use Rattle.theory.specs.Guards.{Paper}
use Rattle.theory.proofs.KnownLaws.{job_known}
use Rattle.theory.specs.Shown.{Sooner, ShownJobs}
use Rattle.theory.specs.Reach.{Path as Row}
use Rattle.theory.proofs.ReachLaws.{Edge as Link, Free, cut, shortest_distinct, path_links, links_path, links_back, path_chain, chain_path}
use Rattle.jobset.specs.Jobset.{bit}
use Rattle.jobset.specs.JobsetLaws.{member_below}
use Rattle.chain.specs.Paths.{Edge, Open, Path, Best, Joined, Both}
use Rattle.conflicts.specs.Sets.{Has, Sets, job_with}
use Rattle.splits.specs.Splits.{shut?, Meets, Parts, first?, last?, first_any?, last_any?}
use Rattle.splits.proofs.SplitsLaws.{with_means, none_means, first_means, last_means, danger_found}
use Rattle.splits.proofs.AboveLaws.{first_any, last_any, danger_any}
use Rattle.splits.proofs.HasLaws.{has_in, has_out}

-- in a row with no job twice the next is another
next : (i j : ℕ) (c : List ℕ) → T (distinct? (i ∷ j ∷ c)) → ¬ (i ≡ j)
next i j c d = differ i j (nor_left (eqb i j) (some? (eqb i) c) (and_left (not (some? (eqb i) (j ∷ c))) (distinct? (j ∷ c)) d))

-- a spread from some jobs has one of the last where a path leads there
pub joined_meets : (clash_of : List ℕ) (shut first last all : ℕ) → Joined clash_of shut first all → ((k : ℕ) × (bit all k ≡ 1) × (bit last k ≡ 1)) ↔ Meets clash_of shut first last
joined_meets clash_of shut first last all w = (
  λ h. let q = w.sound h.0 h.1 in (q.0, h.0, q.1, q.2, h.2, q.3),
  λ m. (m.1, w.whole m.0 m.1 m.2 m.3 m.5, m.4),
)

module _ (r : Rule) (js : Jobs r) where
  pub earlier_known : (p : r.Op → r.Op → Bool) (i : ℕ) (ys : List r.Op) → Some r p (job r js i) ys → i < length js
  earlier_known p i ys t = job_known js i 0 (meet_first p (job r js i) ys t)

  pub later_known : (p : r.Op → r.Op → Bool) (xs : List r.Op) (j : ℕ) → Some r p xs (job r js j) → j < length js
  later_known p xs j t = job_known js j 0 (meet_second p xs (job r js j) t)

module _ (r : Rule) (js : Jobs r) {kind writers ww_of rw_of wr_of clash_of : List ℕ} (s : Sets r js kind writers ww_of rw_of wr_of clash_of) where
  -- an edge leads to another job that conflicts
  edge_means : (i j : ℕ) → i < 32 → Edge clash_of i j ↔ (¬ (i ≡ j)) × T (conflict? r js i j)
  edge_means i j h =
      let in_set = has_in (get_or clash_of i 0) (job_with r js (clash r) i) (s.job_clash i h) j in
      let joins = with_means r js i (clash r) j in
      (λ e. joins.0 (in_set.0 e), λ q. in_set.1 (joins.1 q))

  -- a conflict goes both ways, of any operations: two lists of them are the jobs of a sheet of two
  pub clash_back : (xs ys : List r.Op) → Some r (clash r) xs ys → Some r (clash r) ys xs
  clash_back xs ys = conflict_sym r (λ x y. subst T (s.both_ways x y)) (xs ∷ ys ∷ []) 0 1

  -- edges go both ways
  pub edges_back : Both clash_of
  edges_back i j h l e = let q = (edge_means i j h).0 e in (edge_means j i l).1 (λ d. q.0 (sym d), clash_back (job r js i) (job r js j) q.1)

  module _ (t1 shut : ℕ) (h : Has shut (shut? r js t1)) where
    open_means : (j : ℕ) → Open shut j ↔ (¬ (t1 ≡ j)) × T (free? r js t1 j)
    open_means j = (
      λ o. let n = out.0 o in let d = differ t1 j (nor_left (eqb t1 j) joins n) in (d, (none_means r js t1 (clash r) j d).0 (nor_right (eqb t1 j) joins n)),
      λ q. out.1 (nor_both (eqb t1 j) joins (unequal t1 j q.0) ((none_means r js t1 (clash r) j q.0).1 q.1)),
    )
      where
        joins : Bool
        joins = job_with r js (clash r) t1 j

        out : Open shut j ↔ T (not (shut? r js t1 j))
        out = has_out shut (shut? r js t1) h j

    -- the paths that the theory's laws of reaching speak of
    abbrev Rows : ℕ → ℕ → List ℕ → Type 0
    Rows tm = Row (Link r js t1) (Free r js t1) (◌≡ tm)

    path_row : (tm i : ℕ) (c : List ℕ) → i < 32 → Path clash_of shut i tm c → Rows tm i c
    path_row tm i [] l p = p
    path_row tm i (j ∷ []) l p = (((edge_means i j l).0 p.0).1, tt, p.1)
    path_row tm i (j ∷ k ∷ c) l p =
        let e = ((edge_means i j l).0 p.0).1 in
        let n = later_known r js (clash r) (job r js i) j e in
        let o = (open_means j).0 p.1 in
        (e, (n, o.0, o.1), path_row tm j (k ∷ c) (omega (arith, s.few)) p.2)

    row_path : (tm i : ℕ) (c : List ℕ) → i < 32 → T (distinct? (i ∷ c)) → Rows tm i c → Path clash_of shut i tm c
    row_path tm i [] l d p = p
    row_path tm i (j ∷ []) l d p = ((edge_means i j l).1 (next i j [] d, p.0), p.2)
    row_path tm i (j ∷ k ∷ c) l d p = (
      (edge_means i j l).1 (next i j (k ∷ c) d, p.0),
      (open_means j).1 (p.1.1, p.1.2),
      row_path tm j (k ∷ c) (omega (arith, p.1.0, s.few)) (and_right (not (some? (eqb i) (j ∷ k ∷ c))) (distinct? (j ∷ k ∷ c)) d) p.2,
    )

    -- a row can be cut to a path that is no longer
    row_cut : (tm i : ℕ) (c : List ℕ) → i < 32 → Rows tm i c → (d : List ℕ) × (length d ≤ length c) × T (distinct? (i ∷ d)) × Rows tm i d × Path clash_of shut i tm d
    row_cut tm i c l p =
        let q = cut (Link r js t1) (Free r js t1) (◌≡ tm) i c p in
        (q.row, q.short, q.distinct, q.way, row_path tm i q.row l q.distinct q.way)

    -- paths go both ways, and so first and last jobs change places
    pub path_back : (i k : ℕ) (c : List ℕ) → i < 32 → k < 32 → Path clash_of shut i k c → (d : List ℕ) × Path clash_of shut k i d
    path_back i k c l m p =
        let there = path_links (Link r js t1) (Free r js t1) (◌≡ k) i c (path_row k i c l p) in
        let back = links_path (Link r js t1) (Free r js t1) (◌≡ i) (length c) k (links_back (Link r js t1) (Free r js t1) (λ i j. clash_back (job r js i) (job r js j)) (length c) i k there) in
        let q = row_cut i k back.0 m back.2 in
        (q.0, q.4)

    pub meets_back : (a b : ℕ) → a < 2 ^ 32 → b < 2 ^ 32 → Meets clash_of shut a b → Meets clash_of shut b a
    meets_back a b la lb m =
        let q = path_back m.0 m.1 m.2 (member_below 32 a m.0 la m.3) (member_below 32 b m.1 lb m.4) m.5 in
        (m.1, m.0, q.0, m.4, m.3, q.1)

    -- ends of chains, which conditions 4 and 5 keep apart from t1
    module _ (t2 tm : ℕ) (t2_in : t2 < length js) (t2_not : ¬ (t1 ≡ t2)) (tm_in : tm < length js) (tm_not : ¬ (t1 ≡ tm)) where
      small : t2 < 32
      small = omega (arith, s.few)

      chain_row : (c : List ℕ) → Chain r js t1 t2 tm c → Rows tm t2 c
      chain_row = chain_path r js t1 tm tm_in tm_not t2 t2_in t2_not

      row_chain : (c : List ℕ) → Rows tm t2 c → T (distinct? (t2 ∷ c)) → Chain r js t1 t2 tm c
      row_chain = path_chain r js t1 tm tm_in tm_not t2 t2_in t2_not

      -- a chain is a path
      pub chain_is_path : (c : List ℕ) → Chain r js t1 t2 tm c → Path clash_of shut t2 tm c
      chain_is_path c w = row_path tm t2 c small (and_right (not (some? (eqb t1) (t2 ∷ c))) (distinct? (t2 ∷ c)) w.distinct) (chain_row c w)

      pub chain_joined : ((c : List ℕ) × Chain r js t1 t2 tm c) ↔ ((c : List ℕ) × Path clash_of shut t2 tm c)
      chain_joined = (
        λ w. (w.0, chain_is_path w.0 w.1),
        λ p. let q = row_cut tm t2 p.0 small (path_row tm t2 p.0 small p.1) in (q.0, row_chain q.0 q.3 q.2),
      )

      -- the best path is the chain shown
      pub path_shown : (c : List ℕ) → Best clash_of shut t2 tm c → ShownJobs r js t1 t2 tm c
      path_shown c w = record { chain = row_chain c row distinct; first = λ d q. w.least d (chain_is_path d q) }
        where
          row : Rows tm t2 c
          row = path_row tm t2 c small w.path

          no_shorter : (d : List ℕ) → (c ≡ d) ⊎ Sooner c d → length c ≤ length d
          no_shorter d (inl e) = omega (arith, ap length e)
          no_shorter d (inr (inl l)) = omega arith
          no_shorter d (inr (inr q)) = omega (arith, q.0)

          distinct : T (distinct? (t2 ∷ c))
          distinct = shortest_distinct (Link r js t1) (Free r js t1) (◌≡ tm) t2 c row (λ d p. let q = row_cut tm t2 d small p in omega (arith, q.1, no_shorter q.0 (w.least q.0 q.4)))

    module _ (lv : ℕ → ℕ) where
      -- the same parts, with a path for the chain
      joined : (is_first is_last : ℕ → Bool) (t2 tm : ℕ)
          → (T (is_first t2) → (t2 < length js) × (¬ (t1 ≡ t2))) → (T (is_last tm) → (tm < length js) × (¬ (t1 ≡ tm)))
          → Parts lv t1 is_first is_last t2 tm ((c : List ℕ) × Chain r js t1 t2 tm c) ↔ Parts lv t1 is_first is_last t2 tm ((c : List ℕ) × Path clash_of shut t2 tm c)
      joined is_first is_last t2 tm f l = (
        λ p. (p.0, p.1, p.2, (chain_joined t2 tm (f p.0).0 (f p.0).1 (l p.1).0 (l p.1).1).0 p.3),
        λ p. (p.0, p.1, p.2, (chain_joined t2 tm (f p.0).0 (f p.0).1 (l p.1).0 (l p.1).1).1 p.3),
      )

      pub first_other : (b k : ℕ) → T (first? r js lv t1 b k) → (k < length js) × (¬ (t1 ≡ k))
      first_other b k t = let f = (first_means r js lv t1 b k).0 t in (later_known r js r.rw (alone r b (job r js t1)) k f.four, f.clear.other)

      pub last_other : (b k : ℕ) → T (last? r js lv t1 b k) → (k < length js) × (¬ (t1 ≡ k))
      last_other b k t = let l = (last_means r js lv t1 b k).0 t in (elim l.five [ inl q ↦ earlier_known r js r.rw k (job r js t1) q | inr q ↦ earlier_known r js (clash r) k (postfix r b (job r js t1)) q.1 ], l.clear.other)

      pub danger_joined : (b t2 tm : ℕ) → Danger r (Paper r) js lv t1 b t2 tm ↔ Parts lv t1 (first? r js lv t1 b) (last? r js lv t1 b) t2 tm ((c : List ℕ) × Path clash_of shut t2 tm c)
      danger_joined b t2 tm =
          let found = danger_found r js lv t1 b t2 tm in
          let paths = joined (first? r js lv t1 b) (last? r js lv t1 b) t2 tm (first_other b t2) (last_other b tm) in
          (λ d. paths.0 (found.0 d), λ p. found.1 (paths.1 p))

      -- above RC, with no operation named
      pub danger_any_joined : 1 ≤ lv t1 → (t2 tm : ℕ)
          → ((b : ℕ) × Danger r (Paper r) js lv t1 b t2 tm) ↔ Parts lv t1 (first_any? r js lv t1) (last_any? r js lv t1) t2 tm ((c : List ℕ) × Path clash_of shut t2 tm c)
      danger_any_joined above t2 tm =
          let found = danger_any r js lv t1 above t2 tm in
          let paths = joined (first_any? r js lv t1) (last_any? r js lv t1) t2 tm (λ t. let f = (first_any r js lv t1 above t2).1 t in first_other f.0 t2 f.1) (λ t. last_other 0 tm ((last_any r js lv t1 above 0 tm).1 t)) in
          (λ d. paths.0 (found.0 d), λ p. found.1 (paths.1 p))
