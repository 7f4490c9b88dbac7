-- The walk's steps, over any jobs that the sets belong to.
use mathlib.Core.Path.{◌≡◌, refl, sym, ap, ◌∙◌}
use mathlib.Core.Bool.{Bool, true, false, cond, ◌&&◌}
use mathlib.Core.List.{List}
use Prim.Native.Nat.{ℕ, ◌+◌, ◌<◌, ◌≤◌, min}
use native.Mathlib.Omega.{arith}
use borrow.Author.Tests.{eqb-true, eqb-false}
use lib.Dec.{T, leb, ltb, eqb, lt→ltb}
use lib.ListN.{length, get_or}
use Rattle.jobset.specs.Jobset.{bit, one}
use Rattle.jobset.specs.JobsetLaws.{one_and}
use Rattle.theory.specs.Danger.{Jobs, Danger}
use Rattle.theory.proofs.DangerLaws.{paper_same}
use Rattle.theory.proofs.KnownLaws.{b1_known, t1_known, t2_known, tm_known}
use Rattle.theory.specs.Guards.{Paper}
use Rattle.theory.specs.Form1.{form1}
use Rattle.theory.specs.Lowest.{level}
use Rattle.theory.specs.Walk as theory
use Rattle.theory.specs.Walk.{Walks, from_one_lem}
use Rattle.conflicts.specs.Sets.{Has}
use Rattle.conflicts.specs.SetsOf.{SetsOf}
use Rattle.conflicts.specs.declared.sets.Sets as declared
use Rattle.splits.specs.Splits.{watch?, shut?, Splits}
use Rattle.splits.proofs.HasLaws.{has_in}
use Rattle.splits.proofs.JoinedLaws.{danger_joined, path_back}
use Rattle.walk.specs.Answers.{named}
use Rattle.walk.specs.Sides.{Firsts, Lasts}
use Rattle.walk.specs.Starts.{key_at, Starts}
use Rattle.walk.specs.declared.four.Four.{Four}
use Rattle.walk.specs.declared.four.Indices.{Indices}
use Rattle.walk.proofs.Keys.{Inside, Passed, pass_one, pass_first, pass_operation, pass_job, at_end, at_found}

-- ---- the levels of the first jobs; what stands behind them does not matter
module _ (jobs : ℕ) (levels : List ℕ) where
  abbrev pub level_of_lem : ℕ → ℕ
  level_of_lem k = cond (ltb k jobs) (level levels k) 0

  pub level_of_is : (k : ℕ) → k < jobs → level_of_lem k ≡ level levels k
  level_of_is k h = at (ltb k jobs) (lt→ltb k jobs h)
    where
      at : (b : Bool) → T b → cond b (level levels k) 0 ≡ level levels k
      at true t = refl
      at false t = absurd t

  at_ssi_lem : (b : Bool) (x : ℕ) → (b && leb 2 x) ≡ leb 2 (cond b x 0)
  at_ssi_lem true x = refl
  at_ssi_lem false x = refl

  -- the jobs that SSI watches together with t
  pub watched_has : (t ssi watch : ℕ) → t < jobs → Has ssi (λ k. ltb k jobs && leb 2 (level levels k))
      → ((k : ℕ) → bit watch k ≡ min (one (leb 2 (level levels t))) (bit ssi k)) → Has watch (watch? level_of_lem t)
  watched_has t ssi watch h all both k =
      both k ∙ ap (λ (x : ℕ). min (one (leb 2 (level levels t))) x) (all k ∙ ap one (at_ssi_lem (ltb k jobs) (level levels k)))
      ∙ ap (λ (x : ℕ). min (one (leb 2 x)) (one (leb 2 (level_of_lem k)))) (sym (level_of_is t h)) ∙ sym (one_and (leb 2 (level_of_lem t)) (leb 2 (level_of_lem k)))

module _ (s : declared.Sets) (levels : List ℕ) where
  abbrev jobs : ℕ
  jobs = s.table.now.jobs

  abbrev lv : ℕ → ℕ
  lv = level_of_lem jobs levels

  -- four numbers, counted from 0, are a danger of some jobs that the sets belong to
  unfoldable pub DangerAt : ℕ → ℕ → ℕ → ℕ → Type 0
  DangerAt t b f l = (js : Jobs form1) × SetsOf js s × (length js ≡ jobs) × Danger form1 (Paper form1) js lv t b f l

  inside : Inside DangerAt jobs
  unfolding DangerAt
  inside = record { known = known }
    where
      known : (t b f l : ℕ) → DangerAt t b f l → (t < jobs) × (b < 16) × (f < 32) × (l < 32)
      known t b f l (js, of, n, d) =
          let t_in = t1_known form1 (Paper form1) js d in
          let b_in = b1_known form1 (Paper form1) js d in
          let f_in = t2_known form1 (Paper form1) js d in
          let l_in = tm_known form1 (Paper form1) js d in
          (omega arith, omega (arith, of.short t), omega (arith, of.few), omega (arith, of.few))

  -- what is worked out for split job t
  pub record Ready (t : ℕ) (first last : List ℕ) (shut watch : ℕ) : Type 0 where
    pub known : t < 32
    pub ssi : Has watch (watch? lv t)
    pub closed : (js : Jobs form1) → SetsOf js s → Has shut (shut? form1 js t)
    pub splits : (js : Jobs form1) → SetsOf js s → Splits form1 js lv t first last

  module _ (t b f l : ℕ) {first last : List ℕ} {shut watch : ℕ} (ready : Ready t first last shut watch) (hb : b < 16)
      (firsts : ℕ) (w : Firsts s.clash shut (get_or first b 0) (get_or last b 0) firsts) where
    -- a danger's first job is among the first jobs
    first_there : DangerAt t b f l → bit firsts f ≡ 1
    unfolding DangerAt
    first_there (js, of, n, d) =
        let p = (danger_joined form1 js of t shut (ready.closed js of) lv b f l).0 d in
        let known = inside.known t b f l (js, of, n, d) in
        let back = path_back form1 js of t shut (ready.closed js of) f l p.3.0 known.2 known.3 p.3.1 in
        w.whole l f back.0 ((has_in _ _ ((ready.splits js of).firsts b hb) f).1 p.0) ((has_in _ _ ((ready.splits js of).lasts b hb) l).1 p.1) back.1

    module _ (lasts : ℕ) (v : Lasts s.clash shut watch firsts (get_or last b 0) f lasts) where
      -- its last job goes with it
      last_there : DangerAt t b f l → bit lasts l ≡ 1
      unfolding DangerAt
      last_there (js, of, n, d) =
          let p = (danger_joined form1 js of t shut (ready.closed js of) lv b f l).0 d in
          v.whole l (record {
            first = first_there (js, of, n, d);
            last = (has_in _ _ ((ready.splits js of).lasts b hb) l).1 p.1;
            six = λ h. p.2 ((has_in _ _ ready.ssi f).0 h.0, (has_in _ _ ready.ssi l).0 h.1);
            between = p.3.0;
            path = p.3.1;
          })

      -- and what goes with a first job is a danger
      last_right : bit lasts l ≡ 1 → (js : Jobs form1) → SetsOf js s → Danger form1 (Paper form1) js lv t b f l
      last_right e js of =
          let g = v.sound l e in
          (danger_joined form1 js of t shut (ready.closed js of) lv b f l).1 (
            (has_in _ _ ((ready.splits js of).firsts b hb) f).0 (w.sound f g.first).0,
            (has_in _ _ ((ready.splits js of).lasts b hb) l).0 g.last,
            λ h. g.six ((has_in _ _ ready.ssi f).1 h.0, (has_in _ _ ready.ssi l).1 h.1),
            (g.between, g.path),
          )

  -- ---- the steps of the four loops: what is left behind is no danger
  module _ (i t b f l : ℕ) {first last : List ℕ} {shut watch : ℕ} (ready : Ready t first last shut watch) (hb : b < 16)
      (firsts : ℕ) (w : Firsts s.clash shut (get_or first b 0) (get_or last b 0) firsts) where
    pub next_last : (lasts : ℕ) → Lasts s.clash shut watch firsts (get_or last b 0) f lasts → l < 32 → eqb (bit lasts l) 1 ≡ false
        → Passed DangerAt i t b f l → Passed DangerAt i t b f (l + 1)
    next_last lasts v hl out x =
        pass_one DangerAt jobs inside i t b f l x hl (λ d. eqb-false (bit lasts l) 1 out (last_there t b f l ready hb firsts w lasts v d))

    pub next_first : (lasts end : ℕ) → Lasts s.clash shut watch firsts (get_or last b 0) f lasts → f < 32 → ((k : ℕ) → bit lasts k ≡ 1 → k < end) → end ≤ l
        → Passed DangerAt i t b f l → Passed DangerAt i t b (f + 1) 0
    next_first lasts end v hf within over x =
        pass_first DangerAt jobs inside i t b f l x hf (λ m h d. omega (arith, within m (last_there t b f m ready hb firsts w lasts v d)))

    pub next_operation : (end : ℕ) → ((k : ℕ) → bit firsts k ≡ 1 → k < end) → end ≤ f → Passed DangerAt i t b f l → Passed DangerAt i t (b + 1) 0 0
    next_operation end within over x =
        pass_operation DangerAt jobs inside i t b f l x hb (λ k m h d. omega (arith, within k (first_there t b k m ready hb firsts w d)))

  pub next_job : (i t b f l : ℕ) → 16 ≤ b → Passed DangerAt i t b f l → Passed DangerAt i (t + 1) 0 0 0
  next_job i t b f l over x = pass_job DangerAt jobs inside i t b f l x over

  -- ---- the answer
  module _ (q : Four) (from : Indices) (e : Starts q from) (js : Jobs form1) (of : SetsOf js s) (n : length js ≡ jobs) where
    -- only the levels of the sheet's jobs matter
    under : (A B : ℕ → ℕ) → ((k : ℕ) → k < jobs → A k ≡ B k) → (t b f l : ℕ) → Danger form1 (Paper form1) js B t b f l → Danger form1 (Paper form1) js A t b f l
    under A B same t b f l d = paper_same form1 js A B t b f l
        (same t (omega (arith, t1_known form1 (Paper form1) js d)))
        (same f (omega (arith, t2_known form1 (Paper form1) js d)))
        (same l (omega (arith, tm_known form1 (Paper form1) js d))) d

    all : (t b f l : ℕ) → Danger form1 (Paper form1) js (level levels) t b f l → DangerAt t b f l
    unfolding DangerAt
    all t b f l d = (js, of, n, under lv (level levels) (level_of_is jobs levels) t b f l d)

    pub ends : (t b f l : ℕ) → jobs ≤ t → Passed DangerAt (key_at from) t b f l → Walks form1 (Paper form1) js (level levels) (named q) theory.end
    ends = at_end form1 (Paper form1) js (level levels) DangerAt jobs inside all q from e

    pub finds : (t b f l : ℕ) {first last : List ℕ} {shut watch : ℕ} → Ready t first last shut watch → b < 16
        → (firsts : ℕ) → Firsts s.clash shut (get_or first b 0) (get_or last b 0) firsts → (lasts : ℕ) → Lasts s.clash shut watch firsts (get_or last b 0) f lasts
        → eqb (bit lasts l) 1 ≡ true → Passed DangerAt (key_at from) t b f l → Walks form1 (Paper form1) js (level levels) (named q) (theory.found (from_one_lem t b f l))
    finds t b f l ready hb firsts w lasts v is x =
        let d = last_right t b f l ready hb firsts w lasts v (eqb-true (bit lasts l) 1 is) js of in
        at_found form1 (Paper form1) js (level levels) DangerAt jobs inside all q from e t b f l
        (under (level levels) lv (λ k h. sym (level_of_is jobs levels k h)) t b f l d) x
