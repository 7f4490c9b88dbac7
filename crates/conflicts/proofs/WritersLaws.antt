-- The jobs that write an object, entry by entry of the table's arrays.
-- Assumes nothing.
use Prim.Native.Nat.{ℕ, ◌+◌, ◌-◌, ◌/◌, ◌≤◌, ◌<◌, max}
use mathlib.Core.Path.{◌≡◌, refl, sym, ap, ◌∙◌}
use mathlib.Core.Logic.{inl, inr}
use mathlib.Core.Bool.{Bool, true, false, ◌&&◌}
use mathlib.Core.List.{List, ◌++◌}
use native.Mathlib.Nat.{eq-or-lt_of_le}
use native.Mathlib.Decide.{ℕ_discrete, dec_lt}
use native.Mathlib.Omega.{arith}
use lib.Dec.{eqb}
use lib.ListN.{length, get_or, set, take, drop, replicate, length-set, length-replicate, get_or-replicate}
use lib.Seq.{get_or-set_same, get_or-set_other}
use Rattle.std.proofs.Common.{get_or-take, length-take-le}
use borrow.Author.Tests.{eqb-true, eq-eqb}
use Rattle.jobset.specs.Jobset.{bit, one}
use Rattle.jobset.specs.JobsetLaws.{bit_none}
use Rattle.sheet.specs.ReadLaws.{zeros}
use Rattle.conflicts.specs.Sets.{Has}
use Rattle.conflicts.specs.Found.{write?, writes?, Gathered, Handed, WritesBelow, Written}
use Rattle.conflicts.proofs.FrontLaws.{length_kept, in_front, behind_front}
use Rattle.conflicts.proofs.Among.{same_test, among_out, has_none, has_more, has_skip}

module _ (kind object : List ℕ) (x i : ℕ) where
  -- an entry that writes another object, or does not write, tells nothing
  pub no_write : (get_or kind i 0 ≡ 2 → x ≡ get_or object i 0 → ⊥) → (k : ℕ) → write? kind object x k i ≡ false
  unfolding write?
  no_write f k = cases (eqb (i / 16) k) (eqb (get_or kind i 0) 2) (eqb x (get_or object i 0)) (eqb-true _ _) (eqb-true _ _)
    where
      cases : (a b c : Bool) → (b ≡ true → get_or kind i 0 ≡ 2) → (c ≡ true → x ≡ get_or object i 0) → a && (b && c) ≡ false
      cases false b c g h = refl
      cases true false c g h = refl
      cases true true false g h = refl
      cases true true true g h = absurd (f (g refl) (h refl))

  pub one_write : get_or kind i 0 ≡ 2 → x ≡ get_or object i 0 → (k : ℕ) → write? kind object x k i ≡ eqb (i / 16) k
  unfolding write?
  one_write e f k = cases (eqb (i / 16) k) _ _ (eq-eqb (get_or kind i 0) 2 e) (eq-eqb x (get_or object i 0) f)
    where
      cases : (a b c : Bool) → b ≡ true → c ≡ true → a && (b && c) ≡ a
      cases false b c g h = refl
      cases true b c g h = rw (g, h)

module _ (kind object : List ℕ) (from : ℕ) where
  pub gathered_none : (seen : List ℕ) → seen ≡ replicate 512 0 → Gathered kind object 0 from seen
  gathered_none seen e = rw e (record {
    as_long = length-replicate {A = ℕ} 512 0;
    jobs = λ s h. has_none (write? kind object (from + s)) _ (get_or-replicate 512 s 0 0 h);
  })

  pub gathered_skip : (i : ℕ) (seen : List ℕ) → Gathered kind object i from seen
      → ((s : ℕ) → s < 512 → get_or kind i 0 ≡ 2 → from + s ≡ get_or object i 0 → ⊥) → Gathered kind object (i + 1) from seen
  gathered_skip i seen g f = record {
    as_long = g.as_long;
    jobs = λ s h. has_skip (write? kind object (from + s)) i _ (g.jobs s h) (no_write kind object (from + s) i (f s h));
  }

  pub gathered_store : (i s v : ℕ) (seen : List ℕ) → Gathered kind object i from seen → s < 512
      → get_or kind i 0 ≡ 2 → from + s ≡ get_or object i 0 → ((k : ℕ) → bit v k ≡ max (bit (get_or seen s 0) k) (one (eqb (i / 16) k)))
      → Gathered kind object (i + 1) from (set seen s v)
  gathered_store i s v seen g h a b e = record { as_long = length-set seen s v ∙ g.as_long; jobs = λ t q. at t q (ℕ_discrete t s) }
    where
      at : (t : ℕ) → t < 512 → Dec (t ≡ s) → Has (get_or (set seen s v) t 0) (writes? kind object (i + 1) (from + t))
      at t q (yes d) =
          rw (d, get_or-set_same seen s v 0 (omega (arith, g.as_long)))
          (has_more (write? kind object (from + s)) i _ v (g.jobs s h)
          (λ k. e k ∙ ap (λ (c : Bool). max (bit (get_or seen s 0) k) (one c)) (sym (one_write kind object (from + s) i a b k))))
      at t q (no d) =
          rw (get_or-set_other seen s t v 0 d)
          (has_skip (write? kind object (from + t)) i _ (g.jobs t q) (no_write kind object (from + t) i (λ u w. d (omega arith))))

module _ (object seen : List ℕ) (from : ℕ) (old : List ℕ) where
  pub handed_skip : (n : ℕ) (new : List ℕ) → Handed object seen n from old new
      → ((s : ℕ) → s < 512 → get_or object n 0 ≡ from + s → ⊥) → Handed object seen (n + 1) from old new
  handed_skip n new d f = record {
    as_long = d.as_long;
    inside = λ i s h l e. elim (eq-or-lt_of_le {n = i} {m = n} (omega arith)) [
      | inl q ↦ absurd (f s l (ap (λ (x : ℕ). get_or object x 0) (sym q) ∙ e))
      | inr q ↦ d.inside i s q l e
    ];
    outside = λ i g. d.outside i (λ s h l e. g s (omega arith) l e);
  }

  pub handed_store : (n t : ℕ) (new : List ℕ) → Handed object seen n from old new → n < length old → t < 512 → get_or object n 0 ≡ from + t
      → Handed object seen (n + 1) from old (set new n (get_or seen t 0))
  handed_store n t new d b l at = record {
    as_long = length-set new n (get_or seen t 0) ∙ d.as_long;
    inside = inside;
    outside = λ i g.
        get_or-set_other new n i _ 0 (λ q. g t (omega arith) l (ap (λ (x : ℕ). get_or object x 0) q ∙ at))
        ∙ d.outside i (λ s h k e. g s (omega arith) k e);
  }
    where
      inside : (i s : ℕ) → i < n + 1 → s < 512 → get_or object i 0 ≡ from + s → get_or (set new n (get_or seen t 0)) i 0 ≡ get_or seen s 0
      inside i s h k e = elim (eq-or-lt_of_le {n = i} {m = n} (omega arith)) [
        | inl q ↦ (
            let same : t ≡ s = omega (arith, ap (λ (x : ℕ). get_or object x 0) q) in
            rw q (get_or-set_same new n (get_or seen t 0) 0 (omega (arith, d.as_long)) ∙ ap (λ (x : ℕ). get_or seen x 0) same)
            )
        | inr q ↦ get_or-set_other new n i (get_or seen t 0) 0 (λ z. omega arith) ∙ d.inside i s q k e
      ]

-- the writing went to the first n entries alone
pub handed_front : (object seen : List ℕ) (n from : ℕ) (old front : List ℕ) → n ≤ length old → Handed object seen n from (take n old) front → Handed object seen n from old (front ++ drop n old)
handed_front object seen n from old front room d = record {
  as_long = length_kept n front old full room;
  inside = λ i s h l e. in_front n front old full i h ∙ d.inside i s h l e;
  outside = λ i g. cases i g (dec_lt i n);
}
  where
    full : length front ≡ n
    full = d.as_long ∙ length-take-le n old room

    cases : (i : ℕ) → ((s : ℕ) → i < n → s < 512 → get_or object i 0 ≡ from + s → ⊥) → Dec (i < n) → get_or (front ++ drop n old) i 0 ≡ get_or old i 0
    cases i g (yes h) = in_front n front old full i h ∙ d.outside i g ∙ get_or-take n old i 0 h
    cases i g (no h) = behind_front n front old full i (omega arith)

-- of the first n entries those on an object below `top` have the jobs that write it, all others have none
pub record WrittenTo (kind object : List ℕ) (n top : ℕ) (writers : List ℕ) : Type 0 where
  pub as_long : length writers ≡ 512
  pub done : (i : ℕ) → i < n → get_or object i 0 < top → Has (get_or writers i 0) (writes? kind object n (get_or object i 0))
  pub rest : (i : ℕ) → (i < n → top ≤ get_or object i 0) → get_or writers i 0 ≡ 0

module _ (kind object : List ℕ) (n : ℕ) where
  pub written_none : (writers : List ℕ) → writers ≡ replicate 512 0 → WrittenTo kind object n 0 writers
  written_none writers e = rw e (record { as_long = length-replicate {A = ℕ} 512 0; done = λ i h l. absurd (omega arith); rest = λ i h. zeros 512 i })

  -- one span more
  pub written_more : (from : ℕ) (seen old new : List ℕ) → Gathered kind object n from seen → Handed object seen n from old new
      → WrittenTo kind object n from old → WrittenTo kind object n (from + 512) new
  written_more from seen old new g d w = record {
    as_long = d.as_long ∙ w.as_long;
    done = λ i h l k. cases i h l k (dec_lt (get_or object i 0) from);
    rest = λ i h. d.outside i (λ s b l e. omega (arith, h b)) ∙ w.rest i (λ b. omega (arith, h b));
  }
    where
      cases : (i : ℕ) → i < n → get_or object i 0 < from + 512 → (k : ℕ) → Dec (get_or object i 0 < from) → bit (get_or new i 0) k ≡ one (writes? kind object n (get_or object i 0) k)
      cases i h l k (yes q) = ap (λ (x : ℕ). bit x k) (d.outside i (λ s b m e. omega arith)) ∙ w.done i h q k
      cases i h l k (no q) =
          let s = get_or object i 0 - from in
          let e : get_or object i 0 ≡ from + s = omega arith in
          ap (λ (x : ℕ). bit x k) (d.inside i s h (omega arith) e) ∙ g.jobs s (omega arith) k ∙ ap (λ (x : ℕ). one (writes? kind object n x k)) (sym e)

  -- past the declared objects nothing is written
  pub written_all : (objects from : ℕ) (writers : List ℕ) → objects ≤ from → WritesBelow objects kind object n → WrittenTo kind object n from writers → Written kind object n writers
  unfolding one
  written_all objects from writers b low w = record {
    as_long = w.as_long;
    done = λ i h. cases i h (dec_lt (get_or object i 0) from);
    rest = λ i h. w.rest i (λ l. absurd (omega arith));
  }
    where
      unwritten : (x k : ℕ) → from ≤ x → writes? kind object n x k ≡ false
      unwritten x k h = same_test _ false
          (λ t.
          let m = among_out (write? kind object x k) n t in
          rw (no_write kind object x m.0 (λ u v. omega (arith, low m.0 m.1 u)) k) at m.2)
          (λ t. absurd t)

      cases : (i : ℕ) → i < n → Dec (get_or object i 0 < from) → Has (get_or writers i 0) (writes? kind object n (get_or object i 0))
      cases i h (yes l) = w.done i h l
      cases i h (no l) = λ k. ap (λ (x : ℕ). bit x k) (w.rest i (λ _. omega arith)) ∙ bit_none k ∙ ap one (sym (unwritten (get_or object i 0) k (omega arith)))
