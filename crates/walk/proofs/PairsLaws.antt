-- The pairs are written one after the other: what is found is what the chain shown has next.
use mathlib.Core.Path.{◌≡◌, refl, sym, ap, ap₂, subst, ◌∙◌}
use mathlib.Core.List.{List, [], ◌∷◌, ◌++◌, map, append_assoc}
use Prim.Native.Nat.{ℕ, suc, ◌+◌, ◌-◌, ◌*◌, ◌<◌, ◌≤◌}
use native.Mathlib.Numerals.{add-one}
use native.Mathlib.Omega.{arith}
use lib.Dec.{T, ltb, ltb→lt, lt→ltb}
use Rattle.std.specs.Prelude.{◌↔◌, Option, Some, IsSome}
use lib.ListN.{length, get_or, drop, set, length-append, length-map}
use lib.Seq.{drop-cons, drop-drop, get_or-drop, set_at, append_snoc, drop-set-lt}
use Rattle.theory.specs.Find.{every?}
use Rattle.theory.proofs.FindLaws.{and_left, and_right, and_both}
use Rattle.theory.specs.Danger.{clash}
use Rattle.theory.specs.Guards.{Paper}
use Rattle.theory.proofs.KnownLaws.{b1_known, t1_known, t2_known}
use Rattle.theory.specs.Form1.{form1}
use Rattle.theory.specs.Shown.{LowestPair, PairAt, Returns, Onward, Pairs}
use Rattle.theory.proofs.PairLaws.{one_pair, pairs_count}
use Rattle.theory.proofs.DistinctLaws.{pigeons}
use Rattle.conflicts.specs.declared.pairs.Pair.{Pair}
use Rattle.conflicts.specs.Pairs.{Fits, Partner, Paired}
use Rattle.conflicts.specs.PairsLaws.{paired, any_conflict, returning, leaving}
use Rattle.walk.specs.ShownIn.{ToPair, pair_row}

-- ---- the row of pairs
row_length : (ps : List (ℕ × ℕ)) → length (pair_row ps) ≡ 2 * length ps
row_length [] = refl
row_length (p ∷ ps) = omega (arith, row_length ps)

row_more : (ps : List (ℕ × ℕ)) (p : ℕ × ℕ) → pair_row (ps ++ (p ∷ [])) ≡ pair_row ps ++ (suc p.0 ∷ suc p.1 ∷ [])
row_more [] p = refl
row_more (q ∷ ps) p = ap (λ (r : List ℕ). suc q.0 ∷ suc q.1 ∷ r) (row_more ps p)

-- two entries behind a front are set
set_two : (front : List ℕ) (n a b x y : ℕ) (beyond : List ℕ) → length front ≡ n → set (set (front ++ x ∷ y ∷ beyond) n a) (n + 1) b ≡ front ++ a ∷ b ∷ beyond
set_two front n a b x y beyond long =
    ap (λ (r : List ℕ). set r (n + 1) b) (set_at front x (y ∷ beyond) a n long ∙ sym (append_snoc front a (y ∷ beyond)))
    ∙ set_at (front ++ (a ∷ [])) y beyond b (n + 1) (simp length-append (omega arith)) ∙ append_snoc front a (b ∷ beyond)

two_on : (n : ℕ) (l : List ℕ) → n + 1 < length l → drop n l ≡ get_or l n 0 ∷ get_or l (suc n) 0 ∷ drop (suc (suc n)) l
two_on n l h = drop-cons l n 0 (omega arith) ∙ ap (λ (r : List ℕ). get_or l n 0 ∷ r) (drop-cons l (suc n) 0 (omega arith))

-- a row that stands at the front of an array grows by one pair
pub row_put : (ps : List (ℕ × ℕ)) (at e l : ℕ) (before pairs after : List ℕ) → length before ≡ 64 → at < 32 → length ps ≡ at → pairs ≡ pair_row ps ++ drop (2 * at) before
    → after ≡ set (set pairs (2 * at) (e + 1)) (2 * at + 1) (l + 1) → after ≡ pair_row (ps ++ ((e, l) ∷ [])) ++ drop (2 * (at + 1)) before
row_put ps at e l before pairs after full small long front put =
    let next : suc (suc (2 * at)) ≡ 2 * (at + 1) = omega arith in
    put
    ∙ ap (λ (r : List ℕ). set (set r (2 * at) (e + 1)) (2 * at + 1) (l + 1)) (front ∙ ap (λ (r : List ℕ). pair_row ps ++ r) (two_on (2 * at) before (omega arith)))
    ∙ set_two (pair_row ps) (2 * at) (e + 1) (l + 1) _ _ _ (row_length ps ∙ ap (λ (x : ℕ). 2 * x) long)
    ∙ ap₂ (λ (x y : ℕ). pair_row ps ++ x ∷ y ∷ drop (suc (suc (2 * at))) before) (add-one e) (add-one l)
    ∙ ap (λ (x : ℕ). pair_row ps ++ suc e ∷ suc l ∷ drop x before) next
    ∙ sym (append_assoc (pair_row ps) (suc e ∷ suc l ∷ []) (drop (2 * (at + 1)) before))
    ∙ ap (λ (r : List ℕ). r ++ drop (2 * (at + 1)) before) (sym (row_more ps (e, l)))

-- the first pair changes nothing beyond it
pub beyond_first : (before pairs : List ℕ) (k x y : ℕ) → 2 ≤ k → pairs ≡ set (set before (2 * 0) x) (2 * 0 + 1) y → drop k pairs ≡ drop k before
beyond_first before pairs k x y h put =
    ap (drop k) put ∙ drop-set-lt k (set before (2 * 0) x) (2 * 0 + 1) y (omega arith) ∙ drop-set-lt k before (2 * 0) x (omega arith)

-- ---- what was found
is_there : {A : Type 0} (found : Option A) (a : A) → found ≡ Some a → IsSome found
is_there found a is = rw is refl

is_one : {A : Type 0} (found : Option A) (a b : A) → found ≡ Some a → found ≡ Some b → a ≡ b
is_one found a b x y = cc

-- where some pair will do, one is found, and it is the lowest
module _ (P Q : ℕ → ℕ → Type 0) (same : (i j : ℕ) → P i j ↔ Q i j) (found : Option Pair) (q : ℕ × ℕ) (f : Paired P found) (fits : Q q.0 q.1) where
  abbrev told : (p : Pair) × (found ≡ Some p) × (p.earlier < 16) × (p.later < 16) × LowestPair Q (p.earlier, p.later)
  told = paired P Q same found q.0 q.1 f fits

  pair_there : IsSome found
  pair_there = is_there found told.0 told.1

  pair_lowest : (p : Pair) → found ≡ Some p → (p.earlier < 16) × (p.later < 16) × LowestPair Q (p.earlier, p.later)
  pair_lowest p is =
      let t : (told.0.earlier < 16) × (told.0.later < 16) × LowestPair Q (told.0.earlier, told.0.later) = (told.2, told.3, told.4) in
      rw (is_one found told.0 p told.1 is) at t

-- ---- where the writing stands
module _ {kind object chain : List ℕ} {level t1 b1 t2 : ℕ} (w : ToPair kind object chain level t1 b1 t2) where
  -- `at` pairs are written and the pair from job `from` on is next
  pub record Going (at from : ℕ) (before pairs : List ℕ) : Type 0 where
    pub rest : List ℕ
    pub done : List (ℕ × ℕ)
    pub todo : List (ℕ × ℕ)
    pub onward : Onward form1 w.js w.lv t1 b1 from rest todo
    pub known : T (every? (λ j. ltb j (length w.js)) (from ∷ rest))
    pub ahead : drop at chain ≡ map suc rest
    pub left : at + length rest ≡ length chain
    pub wrote : length done ≡ at
    pub whole : w.ps ≡ done ++ todo
    pub row : pairs ≡ pair_row done ++ drop (2 * at) before

  -- job i and those after it are the sheet's
  abbrev Known : ℕ → List ℕ → Type 0
  Known i c = T (every? (λ j. ltb j (length w.js)) (i ∷ c))

  known_small : (i : ℕ) (c : List ℕ) → Known i c → i < 32
  known_small i c k = omega (arith, w.laid.few, ltb→lt i (length w.js) (and_left (ltb i (length w.js)) (every? (λ j. ltb j (length w.js)) c) k))

  split_known : t1 < length w.js
  split_known = t1_known form1 (Paper form1) w.js w.danger

  long : length chain ≡ suc (length w.rest)
  long = ap length w.jobs ∙ simp length-map

  -- T1 and the chain are distinct jobs of a sheet
  pub few : length chain < 32
  few =
      let c = w.shown.jobs.chain in
      let all : Known t1 (t2 ∷ w.rest) = and_both (ltb t1 (length w.js)) _ (lt→ltb t1 (length w.js) split_known) c.known in
      omega (arith, long, w.laid.few, pigeons (length w.js) (t1 ∷ t2 ∷ w.rest) c.distinct all)

  pub several : 2 ≤ 2 * length w.ps
  several = omega (arith, pairs_count form1 w.js w.lv t1 b1 t2 w.rest w.ps w.shown.pairs)

  pub ends_known : (t1 < 32) × (b1 < 16) × (t2 < 32)
  ends_known = omega (
    arith,
    w.laid.few,
    split_known,
    t2_known form1 (Paper form1) w.js w.danger,
    b1_known form1 (Paper form1) w.js w.danger,
    w.laid.short t1,
  )

  pub from_known : {at from : ℕ} {before pairs : List ℕ} → Going at from before pairs → from < 32
  from_known {from = i} g = known_small i g.rest g.known

  -- ---- b1 and its partner
  module _ (found : Option ℕ) (f : Partner (Fits form1 w.js 16 t1 t2 b1) found) where
    record First : Type 0 where
      pub a : ℕ
      pub is : found ≡ Some a
      pub small : a < 16
      pub todo : List (ℕ × ℕ)
      pub onward : Onward form1 w.js w.lv t1 b1 t2 w.rest todo
      pub whole : w.ps ≡ (b1, a) ∷ todo

    first_of : (ps : List (ℕ × ℕ)) → w.ps ≡ ps → Pairs form1 w.js w.lv t1 b1 t2 w.rest ps → First
    first_of [] e p = absurd p
    first_of (q ∷ todo) e p =
        let leaves = p.0.fits in
        let low = leaving form1 w.js w.laid.short w.lv t1 b1 t2 found q.1 f (rw leaves.0 at leaves.1) in
        record { a = low.0; is = low.1; small = low.2; todo = todo; onward = p.1; whole = e ∙ ap (λ (x : ℕ × ℕ). x ∷ todo) (one_pair _ _ _ p.0 low.3) }

    first : First
    first = first_of w.ps refl w.shown.pairs

    pub partner_there : IsSome found
    partner_there = is_there found first.a first.is

    module _ (a : ℕ) (is : found ≡ Some a) where
      one : first.a ≡ a
      one = is_one found first.a a first.is is

      pub partner_known : a < 16
      partner_known = rw one at first.small

      pub begun : (before pairs : List ℕ) → length before ≡ 64 → pairs ≡ set (set before (2 * 0) (b1 + 1)) (2 * 0 + 1) (a + 1) → Going 1 t2 pairs pairs
      begun before pairs full put = record {
        rest = w.rest;
        done = (b1, a) ∷ [];
        todo = first.todo;
        onward = first.onward;
        known = w.shown.jobs.chain.known;
        ahead = ap (drop 1) w.jobs;
        left = omega (arith, long);
        wrote = refl;
        whole = rw one at first.whole;
        row =
            row_put [] 0 b1 a before before pairs full (omega arith) refl refl put
            ∙ ap (λ (r : List ℕ). suc b1 ∷ suc a ∷ r) (sym (beyond_first before pairs 2 _ _ (omega arith) put));
      }

  -- ---- each job with the next
  module _ {at from : ℕ} {before pairs : List ℕ} (g : Going at from before pairs) (h : at < length chain) where
    record Link : Type 0 where
      pub j : ℕ
      pub rest : List ℕ
      pub q : ℕ × ℕ
      pub todo : List (ℕ × ℕ)
      pub low : LowestPair (PairAt form1 w.js (clash form1) from j) q
      pub onward : Onward form1 w.js w.lv t1 b1 j rest todo
      pub known : Known j rest
      pub ahead : drop at chain ≡ suc j ∷ map suc rest
      pub left : at + suc (length rest) ≡ length chain
      pub whole : w.ps ≡ g.done ++ (q ∷ todo)

    link_of : (rest : List ℕ) (todo : List (ℕ × ℕ)) → Onward form1 w.js w.lv t1 b1 from rest todo → Known from rest
        → drop at chain ≡ map suc rest → at + length rest ≡ length chain → w.ps ≡ g.done ++ todo → Link
    link_of [] todo o k a l e = absurd (omega arith)
    link_of (j ∷ rest) [] o k a l e = absurd o
    link_of (j ∷ rest) (q ∷ todo) o k a l e = record {
      j = j;
      rest = rest;
      q = q;
      todo = todo;
      low = o.0;
      onward = o.1;
      known = and_right (ltb from (length w.js)) (every? (λ i. ltb i (length w.js)) (j ∷ rest)) k;
      ahead = a;
      left = l;
      whole = e;
    }

    link : Link
    link = link_of g.rest g.todo g.onward g.known g.ahead g.left g.whole

    job_is : get_or chain at 0 ≡ suc link.j
    job_is = ap (λ (i : ℕ). get_or chain i 0) (omega arith) ∙ sym (get_or-drop at chain 0 0) ∙ ap (λ (l : List ℕ). get_or l 0 0) link.ahead

    pub job_there : 0 < get_or chain at 0
    job_there = omega (arith, job_is)

    module _ (to : ℕ) (to_is : to ≡ get_or chain at 0 - 1) where
      same : link.j ≡ to
      same = omega (arith, job_is, to_is)

      to_in : Known to link.rest
      to_in = rw same at link.known

      pub to_known : to < 32
      to_known = known_small to link.rest to_in

      low_to : LowestPair (PairAt form1 w.js (clash form1) from to) link.q
      low_to = rw same at link.low

      module _ (found : Option Pair) (f : Paired (Fits form1 w.js 0 from to) found) where
        pub link_there : IsSome found
        link_there = pair_there _ _ (any_conflict form1 w.js w.laid.short from to) found link.q f low_to.fits

        module _ (p : Pair) (is : found ≡ Some p) where
          low : (p.earlier < 16) × (p.later < 16) × LowestPair (PairAt form1 w.js (clash form1) from to) (p.earlier, p.later)
          low = pair_lowest _ _ (any_conflict form1 w.js w.laid.short from to) found link.q f low_to.fits p is

          pub link_known : (p.earlier < 16) × (p.later < 16)
          link_known = (low.0, low.1)

          pub linked : (after : List ℕ) → length before ≡ 64 → after ≡ set (set pairs (2 * at) (p.earlier + 1)) (2 * at + 1) (p.later + 1) → Going (at + 1) to before after
          linked after full put = record {
            rest = link.rest;
            done = g.done ++ ((p.earlier, p.later) ∷ []);
            todo = link.todo;
            onward = rw same at link.onward;
            known = to_in;
            ahead = sym (drop-drop 1 at chain) ∙ ap (drop 1) link.ahead;
            left = omega (arith, link.left);
            wrote = simp length-append (omega (arith, g.wrote));
            whole = link.whole ∙ ap (λ (x : ℕ × ℕ). g.done ++ (x ∷ link.todo)) (one_pair _ _ _ low_to low.2) ∙ sym (append_snoc g.done (p.earlier, p.later) link.todo);
            row = row_put g.done at p.earlier p.later before pairs after full (omega (arith, few)) g.wrote g.row put;
          }

  -- ---- the last job with T1
  -- all links are written where as many pairs are as the chain has jobs
  pub at_last : {at from : ℕ} {before pairs : List ℕ} → Going at from before pairs → length chain ≤ at → Going (length chain) from before pairs
  at_last {at = at} {from} {before} {pairs} g h = subst (λ (k : ℕ). Going k from before pairs) (omega (arith, g.left)) g

  module _ {from : ℕ} {before pairs : List ℕ} (g : Going (length chain) from before pairs) (any : ℕ)
      (five : (level < 1 → any ≡ suc b1) × (1 ≤ level → any ≡ 16)) (found : Option Pair) (f : Paired (Fits form1 w.js any from t1) found) where
    record Back : Type 0 where
      pub q : ℕ × ℕ
      pub lowest : LowestPair (Returns form1 w.js w.lv t1 b1 from) q
      pub whole : w.ps ≡ g.done ++ (q ∷ [])

    back_of : (rest : List ℕ) (todo : List (ℕ × ℕ)) → Onward form1 w.js w.lv t1 b1 from rest todo → length chain + length rest ≡ length chain → w.ps ≡ g.done ++ todo → Back
    back_of [] [] o m e' = absurd o
    back_of [] (q ∷ []) o m e' = record { q = q; lowest = o; whole = e' }
    back_of [] (q ∷ p ∷ todo) o m e' = absurd o
    back_of (j ∷ rest) todo o m e' = absurd (omega arith)

    back : Back
    back = back_of g.rest g.todo g.onward g.left g.whole

    condition_5 : (b a : ℕ) → Fits form1 w.js any from t1 b a ↔ Returns form1 w.js w.lv t1 b1 from b a
    condition_5 = returning form1 w.js w.laid.short w.lv t1 b1 from any (λ q. five.0 (omega (arith, w.same_level))) (λ q. five.1 (omega (arith, w.same_level)))

    pub back_there : IsSome found
    back_there = pair_there _ _ condition_5 found back.q f back.lowest.fits

    module _ (p : Pair) (is : found ≡ Some p) where
      low_back : (p.earlier < 16) × (p.later < 16) × LowestPair (Returns form1 w.js w.lv t1 b1 from) (p.earlier, p.later)
      low_back = pair_lowest _ _ condition_5 found back.q f back.lowest.fits p is

      pub back_known : (p.earlier < 16) × (p.later < 16)
      back_known = (low_back.0, low_back.1)

      pub finished : (after : List ℕ) → length before ≡ 64 → after ≡ set (set pairs (2 * length chain) (p.earlier + 1)) (2 * length chain + 1) (p.later + 1)
          → after ≡ pair_row w.ps ++ drop (2 * length w.ps) before
      finished after full put =
          let all : w.ps ≡ g.done ++ ((p.earlier, p.later) ∷ []) = back.whole ∙ ap (λ (x : ℕ × ℕ). g.done ++ (x ∷ [])) (one_pair _ _ _ back.lowest low_back.2) in
          let many : length chain + 1 ≡ length w.ps = sym (ap length all ∙ simp length-append (omega (arith, g.wrote))) in
          row_put g.done (length chain) p.earlier p.later before pairs after full few g.wrote g.row put
          ∙ ap₂ (λ (x : List (ℕ × ℕ)) (k : ℕ). pair_row x ++ drop (2 * k) before) (sym all) many
