-- A job is split where some first job is joined with some last one.
use mathlib.Core.Path.{◌≡◌, refl, sym, ap₂, subst, ◌∙◌}
use mathlib.Core.Logic.{◌↔◌, ◌⊎◌, inl, inr}
use mathlib.Core.Bool.{Bool, true, false, ◌&&◌, not, true≢false}
use mathlib.Core.List.{List}
use Prim.Native.Nat.{ℕ, ◌-◌, ◌≤◌, ◌<◌, min}
use native.Mathlib.Omega.{arith}
use lib.Dec.{T}
use lib.ListN.{get_or, length}
use Rattle.std.specs.List.{zip, HoldsAt, AllWithin}
use Rattle.std.specs.Prelude.{MatchBool}
use Rattle.std.proofs.lemmas.Slice.Zip.{length-zip, get_or-zip}
use Rattle.jobset.specs.Jobset.{bit, one}
use Rattle.jobset.specs.JobsetLaws.{bit_lt, digit}
use Rattle.theory.specs.Danger.{Rule, Jobs, wr}
use Rattle.theory.specs.Form1.{form1}
use Rattle.theory.specs.Guards.{Paper}
use Rattle.theory.proofs.KnownLaws.{b1_known}
use Rattle.conflicts.specs.Sets.{Has, Sets, job_with}
use Rattle.splits.specs.Splits.{watch?, shut?, Meets, Meeting, first?, last?, first_any?, last_any?, Splits, SplitsOf}
use Rattle.splits.proofs.SplitsLaws.{watch_means}
use Rattle.splits.proofs.WatchLaws.{watch_none}
use Rattle.splits.proofs.HasLaws.{has_in, has_left}
use Rattle.splits.proofs.JoinedLaws.{danger_joined, danger_any_joined}
use Rattle.verdict.specs.Verdict.{Tells, IsSplit}

pub tells_yes : {P : Type 0} → P → Tells P true
tells_yes p = record { yes = λ _. p; no = λ e. absurd (true≢false e) }

pub tells_no : {P : Type 0} → ¬ P → Tells P false
tells_no n = record { yes = λ e. absurd (true≢false (sym e)); no = λ _. n }

-- the jobs of one set that are not in another
one_less : (p q : Bool) → one (p && not q) ≡ one p - one q
unfolding one
one_less true true = refl
one_less true false = refl
one_less false true = refl
one_less false false = refl

pub has_less : (a b m : ℕ) (p q : ℕ → Bool) → Has a p → Has b q → ((k : ℕ) → bit m k ≡ bit a k - bit b k) → Has m (λ k. p k && not (q k))
has_less a b m p q ha hb e k = e k ∙ ap₂ ◌-◌ (ha k) (hb k) ∙ sym (one_less (p k) (q k))

-- a path joins some first job with some last one, and not both are watched (condition 6)
abbrev pub Apart : List ℕ → ℕ → ℕ → ℕ → ℕ → Type 0
Apart clash_of shut watch first last = (m : Meets clash_of shut first last) × ¬ ((bit watch m.0 ≡ 1) × (bit watch m.1 ≡ 1))

module _ (clash_of : List ℕ) (shut watch first last : ℕ) where
  -- the first is not watched
  pub free_apart : (free : ℕ) → ((k : ℕ) → bit free k ≡ bit first k - bit watch k) → Meets clash_of shut free last → Apart clash_of shut watch first last
  free_apart free e m = ((m.0, m.1, m.2, omega (arith, e m.0, m.3, bit_lt first m.0), m.4, m.5), λ w. omega (arith, e m.0, m.3, bit_lt first m.0, w.0))

  -- or it is and the last is not
  module _ (held rest : ℕ) (in_held : (k : ℕ) → bit held k ≡ min (bit first k) (bit watch k)) (in_rest : (k : ℕ) → bit rest k ≡ bit last k - bit watch k) where
    pub held_apart : Meets clash_of shut held rest → Apart clash_of shut watch first last
    held_apart m = (
      (m.0, m.1, m.2, omega (arith, in_held m.0, m.3, bit_lt first m.0), omega (arith, in_rest m.1, m.4, bit_lt last m.1), m.5),
      λ w. omega (arith, in_rest m.1, m.4, bit_lt last m.1, w.1),
    )

    pub apart_cases : (free : ℕ) → ((k : ℕ) → bit free k ≡ bit first k - bit watch k) → Apart clash_of shut watch first last → Meets clash_of shut free last ⊎ Meets clash_of shut held rest
    apart_cases free in_free q = cases q.0 q.1 (digit _ (bit_lt watch q.0.0)) (digit _ (bit_lt watch q.0.1))
      where
        cases : (m : Meets clash_of shut first last) → ¬ ((bit watch m.0 ≡ 1) × (bit watch m.1 ≡ 1)) → (bit watch m.0 ≡ 0) ⊎ (bit watch m.0 ≡ 1)
            → (bit watch m.1 ≡ 0) ⊎ (bit watch m.1 ≡ 1) → Meets clash_of shut free last ⊎ Meets clash_of shut held rest
        cases m n (inl e) f = inl (m.0, m.1, m.2, omega (arith, in_free m.0, m.3), m.4, m.5)
        cases m n (inr e) (inl f) = inr (m.0, m.1, m.2, omega (arith, in_held m.0, m.3), omega (arith, in_rest m.1, m.4), m.5)
        cases m n (inr e) (inr f) = absurd (n (e, f))

module _ (r : Rule) (js : Jobs r) {kind writers ww_of rw_of wr_of clash_of : List ℕ} (s : Sets r js kind writers ww_of rw_of wr_of clash_of)
    (t1 shut : ℕ) (h : Has shut (shut? r js t1)) (lv : ℕ → ℕ) where
  -- at RC nothing is watched, and some operation has a first and a last job that a path joins
  pub rc_means : lv t1 ≡ 0 → (first last : List ℕ) → Splits r js lv t1 first last
      → IsSplit r js lv t1 ↔ ((b : ℕ) × (b < 16) × Meets clash_of shut (get_or first b 0) (get_or last b 0))
  rc_means e first last w = (
    λ d.
        let short : d.0 < 16 = omega (arith, b1_known r (Paper r) js d.3, s.short t1) in
        let p = (danger_joined r js s t1 shut h lv d.0 d.1 d.2).0 d.3 in
        (d.0, short, (d.1, d.2, p.3.0, (firsts d.0 short d.1).1 p.0, (lasts d.0 short d.2).1 p.1, p.3.1)),
    λ m.
        let q = m.2 in
        (m.0, q.0, q.1, (danger_joined r js s t1 shut h lv m.0 q.0 q.1).1 ((firsts m.0 m.1 q.0).0 q.3, (lasts m.0 m.1 q.1).0 q.4, λ u. unwatched q.0 u.0, (q.2, q.5))),
  )
    where
      unwatched : (k : ℕ) → T (watch? lv t1 k) → ⊥
      unwatched k t = let s = (watch_means lv t1 k).0 t in omega arith

      firsts : (b : ℕ) → b < 16 → (k : ℕ) → (bit (get_or first b 0) k ≡ 1) ↔ T (first? r js lv t1 b k)
      firsts b hb = has_in (get_or first b 0) (first? r js lv t1 b) (w.firsts b hb)

      lasts : (b : ℕ) → b < 16 → (k : ℕ) → (bit (get_or last b 0) k ≡ 1) ↔ T (last? r js lv t1 b k)
      lasts b hb = has_in (get_or last b 0) (last? r js lv t1 b) (w.lasts b hb)

  -- above RC a first and a last job that a path joins are not both watched (condition 6)
  pub above_means : 1 ≤ lv t1 → (watch first last : ℕ) → Has watch (watch? lv t1) → Has first (first_any? r js lv t1) → Has last (last_any? r js lv t1)
      → IsSplit r js lv t1 ↔ Apart clash_of shut watch first last
  above_means up watch first last hw hf hl = (
    λ d.
        let p = (danger_any_joined r js s t1 shut h lv up d.1 d.2).0 (d.0, d.3) in
        ((d.1, d.2, p.3.0, (firsts d.1).1 p.0, (lasts d.2).1 p.1, p.3.1), λ u. p.2 ((watches d.1).0 u.0, (watches d.2).0 u.1)),
    λ m.
        let q = m.0 in
        let d = (danger_any_joined r js s t1 shut h lv up q.0 q.1).1 ((firsts q.0).0 q.3, (lasts q.1).0 q.4, λ u. m.1 ((watches q.0).1 u.0, (watches q.1).1 u.1), (q.2, q.5)) in
        (d.0, q.0, q.1, d.1),
  )
    where
      firsts : (k : ℕ) → (bit first k ≡ 1) ↔ T (first_any? r js lv t1 k)
      firsts = has_in first (first_any? r js lv t1) hf

      lasts : (k : ℕ) → (bit last k ≡ 1) ↔ T (last_any? r js lv t1 k)
      lasts = has_in last (last_any? r js lv t1) hl

      watches : (k : ℕ) → (bit watch k ≡ 1) ↔ T (watch? lv t1 k)
      watches = has_in watch (watch? lv t1) hw

  -- the same by the sets of t1 alone
  module _ (up : 1 ≤ lv t1) (small : t1 < 32) (watch away first home last free : ℕ) (hw : Has watch (watch? lv t1))
      (away_is : (k : ℕ) → bit away k ≡ bit (get_or rw_of t1 0) k - bit (get_or ww_of t1 0) k)
      (first_is : (k : ℕ) → bit first k ≡ bit away k - min (bit watch k) (bit (get_or wr_of t1 0) k))
      (home_is : (k : ℕ) → bit home k ≡ bit (get_or wr_of t1 0) k - bit (get_or ww_of t1 0) k)
      (last_is : (k : ℕ) → bit last k ≡ bit home k - min (bit watch k) (bit (get_or rw_of t1 0) k))
      (free_is : (k : ℕ) → bit free k ≡ bit first k - bit watch k)
    where
      split_apart : IsSplit r js lv t1 ↔ Apart clash_of shut watch first last
      split_apart = above_means up watch first last hw
          (has_left _ _ _ _ _ _ _ _ _ _ out closed hw back away_is first_is)
          (has_left _ _ _ _ _ _ _ _ _ _ back closed hw out home_is last_is)
        where
          closed : Has (get_or ww_of t1 0) (job_with r js r.ww t1)
          closed = s.job_ww t1 small

          out : Has (get_or rw_of t1 0) (job_with r js r.rw t1)
          out = s.job_rw t1 small

          back : Has (get_or wr_of t1 0) (job_with r js (wr r) t1)
          back = s.job_wr t1 small

      -- two tests tell: the first job is not watched, or it is and the last is not
      pub tells_free : (b : Bool) → b ≡ true → Meeting clash_of shut free last b → Tells (IsSplit r js lv t1) b
      tells_free b e m = record { yes = λ _. split_apart.1 (free_apart clash_of shut watch first last free free_is (m.met e)); no = λ f. absurd (true≢false (sym e ∙ f)) }

      pub tells_held : (held rest : ℕ) (b : Bool) → ((k : ℕ) → bit held k ≡ min (bit first k) (bit watch k)) → ((k : ℕ) → bit rest k ≡ bit last k - bit watch k)
          → ¬ Meets clash_of shut free last → Meeting clash_of shut held rest b → Tells (IsSplit r js lv t1) b
      tells_held held rest b held_is rest_is none m = record {
        yes = λ e. split_apart.1 (held_apart clash_of shut watch first last held rest held_is rest_is (m.met e));
        no = λ e d. elim (apart_cases clash_of shut watch first last held rest held_is rest_is free free_is (split_apart.0 d)) [
          | inl q ↦ none q
          | inr q ↦ m.apart e q
        ];
      }

-- at RC, by the first and the last jobs of each operation
module _ (js : Jobs form1) {kind writers ww_of rw_of wr_of clash_of : List ℕ} (s : Sets form1 js kind writers ww_of rw_of wr_of clash_of)
    (t1 shut : ℕ) (h : Has shut (shut? form1 js t1)) (first last : List ℕ) (w : SplitsOf kind writers ww_of rw_of wr_of t1 0 0 first last)
    (lv : ℕ → ℕ) (e : lv t1 ≡ 0) where
  means : IsSplit form1 js lv t1 ↔ ((b : ℕ) × (b < 16) × Meets clash_of shut (get_or first b 0) (get_or last b 0))
  means = rc_means form1 js s t1 shut h lv e first last (w.splits js lv clash_of s e (watch_none lv t1 (omega (arith, e))))

  -- of one operation
  abbrev pub Met : ℕ × ℕ → Type 0
  Met p = Meets clash_of shut p.0 p.1

  size : length (zip first last) ≡ 16
  size = omega (arith, length-zip first last, w.first_full, w.last_full)

  at : (b : ℕ) → b < 16 → get_or (zip first last) b (0, 0) ≡ (get_or first b 0, get_or last b 0)
  at b l = get_or-zip first last b (0, 0) (omega (arith, w.first_full)) (omega (arith, w.last_full))

  pub tells_any : (some : Bool) → MatchBool some ((b : ℕ) × (b < length (zip first last)) × HoldsAt Met (zip first last) b) (AllWithin (λ p. ¬ Met p) (zip first last) 0 (length (zip first last)))
      → Tells (IsSplit form1 js lv t1) some
  tells_any true m = let l : m.0 < 16 = omega (arith, m.1, size) in tells_yes (means.1 (m.0, l, subst Met (at m.0 l) (m.2 (0, 0))))
  tells_any false f = tells_no (λ d. let m = means.0 d in f m.0 (0, 0) (omega arith) (omega (arith, m.1, size)) (subst Met (sym (at m.0 m.1)) m.2))
