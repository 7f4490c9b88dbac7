-- What the code finds is what belongs to the jobs that stand in the arrays.
-- Assumes nothing.
use Prim.Native.Nat.{ℕ, ◌+◌, ◌*◌, ◌-◌, ◌/◌, ◌<◌}
use mathlib.Core.Path.{◌≡◌, refl, sym, ap, ◌∙◌}
use mathlib.Core.Bool.{Bool, true, false, cond, not, ◌&&◌}
use mathlib.Core.List.{List}
use native.Mathlib.Decide.{dec_lt}
use native.Mathlib.Omega.{arith}
use lib.Dec.{T, eqb, eqb→eq, eqb_refl}
use lib.ListN.{length, get_or, get_or-eq_default}
use borrow.Author.Tests.{eqb-true, ne_eqb}
use Rattle.jobset.specs.Jobset.{bit, one}
use Rattle.jobset.specs.JobsetLaws.{bit_none}
use Rattle.theory.specs.Find.{some?}
use Rattle.theory.proofs.FindLaws.{and_left, and_right, and_both, some_in, some_out}
use Rattle.theory.proofs.KnownLaws.{job_known}
use Rattle.theory.specs.Danger.{Jobs, wr, clash, job}
use Rattle.theory.specs.Form1.{form1, kinds?}
use Rattle.theory.proofs.Form1Laws.{kinds_out, kinds_in}
use Rattle.conflicts.specs.Sets.{Has, over, op_with, job_with}
use Rattle.conflicts.specs.SetsFound.{writes_in?, SetsFound}
use Rattle.conflicts.specs.Laid.{op_at, Laid, Below, Stands}
use Rattle.conflicts.specs.Found.{write?, writes?, WritesBelow, Written, Filled, Over, Turned, Any}
use Rattle.conflicts.proofs.Among.{same_test, in_one, among_in, among_out, among_same}
use Rattle.conflicts.proofs.RelationLaws.{some_none, alone_at, among_alone}
use Rattle.conflicts.proofs.JobLaws.{filled_all, turned_jobs, any_jobs}

module _ (kind object : List ℕ) (js : Jobs form1) (laid : Laid kind object js) where
  -- an entry with a kind is an operation of its job
  used : (j o : ℕ) → o < 16 → 0 < get_or kind (16 * j + o) 0 → o < length (job form1 js j)
  used j o h b = cases (dec_lt o (length (job form1 js j)))
    where
      cases : Dec (o < length (job form1 js j)) → o < length (job form1 js j)
      cases (yes l) = l
      cases (no l) =
          let e = sym (get_or-eq_default (job form1 js j) (0, 0) {n = o} (omega arith)) ∙ laid.entry j o h in
          absurd (omega (arith, ap (λ (y : ℕ × ℕ). y.0) e))

  -- the entries that write an object are the writes of it in the job
  writes_job : (x k : ℕ) → writes? kind object (16 * length js) x k ≡ writes_in? js x k
  unfolding write?
  writes_job x k = same_test _ _ there back
    where
      test : ℕ × ℕ → Bool
      test y = eqb y.0 2 && eqb x y.1

      there : T (writes? kind object (16 * length js) x k) → T (some? test (job form1 js k))
      there t =
          let m = among_out (write? kind object x k) (16 * length js) t in
          let i = m.0 in
          let hit = and_right (eqb (i / 16) k) (test (op_at kind object i)) m.2 in
          let own = eqb→eq (i / 16) k (and_left (eqb (i / 16) k) (test (op_at kind object i)) m.2) in
          let o = i - 16 * k in
          let e : 16 * k + o ≡ i = omega arith in
          let kind_is : get_or kind (16 * k + o) 0 ≡ 2 = rw e (eqb→eq _ 2 (and_left (eqb (get_or kind i 0) 2) (eqb x (get_or object i 0)) hit)) in
          some_in test (0, 0) (job form1 js k) o (used k o (omega arith) (omega arith)) (rw (laid.entry k o (omega arith), e) hit)

      back : T (some? test (job form1 js k)) → T (writes? kind object (16 * length js) x k)
      back t =
          let m = some_out test (0, 0) (job form1 js k) t in
          let o = m.0 in
          let i = 16 * k + o in
          let within : o < 16 = omega (arith, m.1, laid.short k) in
          let own : i / 16 ≡ k = omega arith in
          among_in (write? kind object x k) (16 * length js) i (omega (arith, job_known js k o m.1))
          (and_both (eqb (i / 16) k) (test (op_at kind object i)) (rw own (eqb_refl k)) (rw (laid.entry k o within) at m.2))

  -- an entry that writes stands for an operation, whose object is below the declared number
  writes_below : (objects : ℕ) → Below objects js → WritesBelow objects kind object (16 * length js)
  writes_below objects below i h e =
      let j = i / 16 in
      let o = i - 16 * j in
      let same : 16 * j + o ≡ i = omega arith in
      let within : o < 16 = omega arith in
      let kind_is : get_or kind (16 * j + o) 0 ≡ 2 = rw same e in
      rw (laid.entry j o within, same) at (below j o (used j o within (omega arith)))

  module _ (writers : List ℕ) (written : Written kind object (16 * length js) writers) where
    -- for each kind but 0 the jobs over an operation of that kind
    pub op_over : (k : ℕ) → 0 < k → (j o : ℕ) → o < 16 → Has (over kind writers (16 * j + o) k) (op_with form1 js (kinds? k 2) j o)
    unfolding one
    op_over k pos j o h x = cases (eqb (get_or kind i 0) k) refl ∙ ap one (sym op_at_lem)
      where
        i : ℕ
        i = 16 * j + o

        others : List (ℕ × ℕ)
        others = job form1 js x

        op_at_lem : op_with form1 js (kinds? k 2) j o x ≡ some? (kinds? k 2 (op_at kind object i)) others
        op_at_lem =
            alone_at (λ a. some? (kinds? k 2 a) others) (0, 0) (some_none (kinds? k 2 (0, 0)) (λ y. rw (ne_eqb 0 k (λ e. omega arith))) others) o (job form1 js j)
            ∙ ap (λ (a : ℕ × ℕ). some? (kinds? k 2 a) others) (laid.entry j o h)

        cases : (b : Bool) → eqb (get_or kind i 0) k ≡ b
            → bit (cond b (get_or writers i 0) 0) x ≡ one (some? (λ y. b && (eqb y.0 2 && eqb (get_or object i 0) y.1)) others)
        cases true e =
            let is = eqb-true (get_or kind i 0) k e in
            let in_job = used j o h (omega arith) in
            written.done i (omega (arith, job_known js j o in_job)) x ∙ ap one (writes_job (get_or object i 0) x)
        cases false e = bit_none x ∙ ap one (sym (some_none _ (λ y. refl) others))

    pub over_jobs : (k : ℕ) → 0 < k → (j m : ℕ) → Over kind writers k j m → Has m (job_with form1 js (kinds? k 2) j)
    unfolding Over
    over_jobs k pos j m h x =
        h x
        ∙ ap (λ (b : Bool). one (not (eqb j x) && b))
        (among_same _ _ 16 (λ o l. in_one _ x _ (op_over k pos j o l x))
        ∙ among_alone (λ a. some? (kinds? k 2 a) (job form1 js x)) 16 (job form1 js j) (laid.short j))

pub stands_below : (jobs objects : ℕ) (kind object : List ℕ) → Stands jobs objects kind object → WritesBelow objects kind object (16 * jobs)
stands_below jobs objects kind object k = rw k.size at (writes_below kind object k.js k.laid objects k.below)

-- ww goes both ways
ww_turn : (a b : ℕ × ℕ) → form1.ww a b ≡ form1.ww b a
ww_turn a b = same_test _ _ (turn a b) (turn b a)
  where
    turn : (x y : ℕ × ℕ) → T (kinds? 2 2 x y) → T (kinds? 2 2 y x)
    turn x y t = let q = kinds_out 2 2 x y t in kinds_in 2 2 y x q.1 q.0 (sym q.2)

-- the arrays that the code fills are the sets of the jobs
pub sets_found : (kind object writers ww_of rw_of wr_of clash_of : List ℕ) (jobs : ℕ)
    → Written kind object (16 * jobs) writers
    → Filled jobs (Over kind writers 2) ww_of → Filled jobs (Over kind writers 1) rw_of
    → Filled jobs (Turned jobs rw_of) wr_of → Filled jobs (Any ww_of wr_of rw_of) clash_of
    → (js : Jobs form1) → length js ≡ jobs → Laid kind object js → SetsFound js kind object writers ww_of rw_of wr_of clash_of
sets_found kind object writers ww_of rw_of wr_of clash_of jobs written in_ww in_rw in_wr in_clash js count laid =
    let written' = rw (← count) at written in
    let op = op_over kind object js laid writers written' in
    let job = over_jobs kind object js laid writers written' in
    let ww_all = filled_all form1 js form1.ww _ ww_of (rw (← count) at in_ww) (job 2 (omega arith)) in
    let rw_all = filled_all form1 js form1.rw _ rw_of (rw (← count) at in_rw) (job 1 (omega arith)) in
    let wr_all = filled_all form1 js (wr form1) _ wr_of (rw (← count) at in_wr) (turned_jobs form1 js rw_of rw_all) in
    let clash_all = filled_all form1 js (clash form1) _ clash_of (rw (← count) at in_clash) (any_jobs form1 js ww_of wr_of rw_of ww_all wr_all rw_all) in
    record {
      sets = record {
        few = laid.few;
        short = laid.short;
        both_ways = ww_turn;
        op_rw = λ j o _ h. op 1 (omega arith) j o h;
        op_ww = λ j o _ h. op 2 (omega arith) j o h;
        job_ww = λ j _. ww_all j;
        job_rw = λ j _. rw_all j;
        job_wr = λ j _. wr_all j;
        job_clash = λ j _. clash_all j;
      };
      writers_long = written.as_long;
      entry = λ i h k. written'.done i h k ∙ ap one (writes_job kind object js laid (get_or object i 0) k);
      behind = written'.rest;
      ww_long = in_ww.as_long;
      rw_long = in_rw.as_long;
      wr_long = in_wr.as_long;
      clash_long = in_clash.as_long;
    }
