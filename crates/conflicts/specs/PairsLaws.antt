-- The pairs found are those of the chain shown, over any conflict rule and jobs of at most 16 operations.
-- Assumes nothing.
use Rattle.std.specs.Prelude.{ℕ, suc, ◌≤◌, ◌<◌, ◌≡◌, refl, ◌↔◌, Bool, ◌||◌, List, T, length, Option, Some, None, IsSome}
use Rattle.std.proofs.Common.{sym, inl, inr, arith}
use Rattle.std.proofs.Math.Decide.{dec_lt}
use Rattle.theory.specs.Find.{some?, meet?}
use Rattle.theory.proofs.FindLaws.{or_right, some_map, meet_swap}
use Rattle.theory.proofs.KnownLaws.{op_known}
use Rattle.theory.proofs.PlaceLaws.{part_whole, part_alone, met}
use Rattle.theory.specs.Danger.{Rule, Jobs, wr, clash, job, alone, conflict?}
use Rattle.theory.specs.Shown.{LowestPair, PairAt, Leaves, Returns}
use Rattle.conflicts.specs.declared.pairs.Pair.{Pair}
use Rattle.conflicts.specs.Pairs.{Fits, Partner, Paired}

meet_map : {A : Type 0} (p q : A → A → Bool) → ((x y : A) → T (p x y) → T (q x y)) → (xs ys : List A) → T (meet? p xs ys) → T (meet? q xs ys)
meet_map p q f xs ys = some_map (λ x. some? (p x) ys) (λ x. some? (q x) ys) (λ x. some_map (p x) (q x) (f x) ys) xs

-- what was found is the lowest that will do, where something will do
pub paired : (P Q : ℕ → ℕ → Type 0) → ((i j : ℕ) → P i j ↔ Q i j) → (found : Option Pair) (i j : ℕ) → Paired P found → Q i j
    → (p : Pair) × (found ≡ Some p) × (p.earlier < 16) × (p.later < 16) × LowestPair Q (p.earlier, p.later)
paired P Q same (Some p) i j f q =
    (p, refl, f.0, f.1, record { fits = (same p.earlier p.later).0 f.2.fits; lowest = λ k l s. f.2.lowest k l ((same k l).1 s) })
paired P Q same None i j f q = absurd (f i j ((same i j).1 q))

module _ (r : Rule) (js : Jobs r) (short : (j : ℕ) → length (job r js j) ≤ 16) where
  pub pair_known : (p : r.Op → r.Op → Bool) (i j b a : ℕ) → PairAt r js p i j b a → (b < 16) × (a < 16)
  pair_known p i j b a t =
      let xs = alone r b (job r js i) in
      let ys = alone r a (job r js j) in
      let in_i = op_known (λ x. some? (p x) ys) (job r js i) b t in
      let in_j = op_known (λ y. some? (λ x. p x y) xs) (job r js j) a (meet_swap p (λ y x. p x y) (λ x y h. h) xs ys t) in
      (omega (arith, short i), omega (arith, short j))

  pub fits_known : (any i j b a : ℕ) → Fits r js any i j b a → (b < 16) × (a < 16)
  fits_known any i j b a f = elim f [ inl t ↦ pair_known r.rw i j b a t | inr t ↦ pair_known (clash r) i j b a t.1 ]

  -- with 16 only rw will do
  pub only_rw : (i j b a : ℕ) → Fits r js 16 i j b a ↔ PairAt r js r.rw i j b a
  only_rw i j b a = (λ f. elim f [ inl t ↦ t | inr t ↦ absurd (omega (arith, t.0, (pair_known (clash r) i j b a t.1).1)) ], λ t. inl t)

  -- with 0 any conflict will do
  pub any_conflict : (i j b a : ℕ) → Fits r js 0 i j b a ↔ PairAt r js (clash r) i j b a
  any_conflict i j b a = (
    λ f. elim f [
      | inl t ↦ meet_map r.rw (clash r) (λ x y. or_right (r.ww x y || wr r x y) (r.rw x y)) (alone r b (job r js i)) (alone r a (job r js j)) t
      | inr t ↦ t.1
    ],
    λ t. inr (omega arith, t),
  )

  -- with the number after b1 where T1 is RC, and 16 above RC, what condition 5 asks of the last pair
  pub returning : (lv : ℕ → ℕ) (t1 b1 tm any : ℕ) → (lv t1 < 1 → any ≡ suc b1) → (1 ≤ lv t1 → any ≡ 16)
      → (b a : ℕ) → Fits r js any tm t1 b a ↔ Returns r js lv t1 b1 tm b a
  returning lv t1 b1 tm any low high b a = (there, back)
    where
      there : Fits r js any tm t1 b a → Returns r js lv t1 b1 tm b a
      there (inl t) = inl t
      there (inr t) = cases (dec_lt (lv t1) 1)
        where
          cases : Dec (lv t1 < 1) → Returns r js lv t1 b1 tm b a
          cases (yes h) = inr (h, omega (arith, low h, t.0), t.1)
          cases (no h) = absurd (omega (arith, high (omega arith), t.0, (pair_known (clash r) tm t1 b a t.1).1))

      back : Returns r js lv t1 b1 tm b a → Fits r js any tm t1 b a
      back (inl t) = inl t
      back (inr t) = inr (omega (arith, low t.0, t.1), t.2)

  -- the partner of b1 among T2's operations makes the pair that leaves T1
  pub leaving : (lv : ℕ → ℕ) (t1 b1 t2 : ℕ) (found : Option ℕ) (k : ℕ) → Partner (Fits r js 16 t1 t2 b1) found → PairAt r js r.rw t1 t2 b1 k
      → (a : ℕ) × (found ≡ Some a) × (a < 16) × LowestPair (Leaves r js lv t1 b1 t2) (b1, a)
  leaving lv t1 b1 t2 (Some a) k f t =
      (a, refl, f.0, record { fits = (refl, (only_rw t1 t2 b1 a).0 f.1); lowest = λ i j p. inr (sym p.0, f.2 j ((only_rw t1 t2 b1 j).1 (rw p.0 at p.1))) })
  leaving lv t1 b1 t2 None k f t = absurd (f k ((only_rw t1 t2 b1 k).1 t))

  -- two jobs conflict where a pair was found (document 02, C-14: no helper array); d stands for any operation
  pub conflicting : (d : r.Op) (i j : ℕ) (found : Option Pair) → Paired (Fits r js 0 i j) found → T (conflict? r js i j) ↔ IsSome found
  conflicting d i j found f = (there found f, back found f)
    where
      xs : List r.Op
      xs = job r js i

      ys : List r.Op
      ys = job r js j

      there : (o : Option Pair) → Paired (Fits r js 0 i j) o → T (conflict? r js i j) → IsSome o
      there (Some p) g t = refl
      there None g t =
          let m = (met d (clash r) (part_whole d xs) (part_whole d ys)).0 t in
          let at = (met d (clash r) (part_alone d xs m.i) (part_alone d ys m.j)).1
          (record { i = m.i; j = m.j; at = refl; to = refl; from_in = m.from_in; to_in = m.to_in; holds = m.holds }) in
          absurd (g m.i m.j ((any_conflict i j m.i m.j).1 at))

      back : (o : Option Pair) → Paired (Fits r js 0 i j) o → IsSome o → T (conflict? r js i j)
      back (Some p) g h =
          let m = (met d (clash r) (part_alone d xs p.earlier) (part_alone d ys p.later)).0 ((any_conflict i j p.earlier p.later).0 g.2.fits) in
          (met d (clash r) (part_whole d xs) (part_whole d ys)).1
          (record { i = m.i; j = m.j; at = tt; to = tt; from_in = m.from_in; to_in = m.to_in; holds = m.holds })
      back None g h = absurd (cc h)
