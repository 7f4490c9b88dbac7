-- The sets of jobs that a job conflicts with, entry by entry of the arrays.
-- Assumes nothing.
use Prim.Native.Nat.{ℕ, zero, suc, ◌+◌, ◌*◌, ◌-◌, ◌≤◌, ◌<◌, max}
use mathlib.Core.Path.{◌≡◌, refl, sym, ap, ◌∙◌}
use mathlib.Core.Bool.{Bool, true, false, not, ◌&&◌}
use mathlib.Core.List.{List, ◌++◌}
use native.Mathlib.Omega.{arith}
use lib.Dec.{eqb}
use lib.ListN.{length, get_or, take, drop, replicate, length-replicate}
use Rattle.jobset.specs.Jobset.{bit, one}
use Rattle.conflicts.specs.Sets.{Has, over}
use Rattle.conflicts.specs.Found.{among, in?, Filled, Over, Turned, Any}
use Rattle.std.proofs.Common.{length-take-le}
use Rattle.conflicts.proofs.FrontLaws.{length_kept, in_front, behind_front}
use Rattle.conflicts.proofs.Among.{digit_in, has_none, has_more, has_skip, among_at}
use Rattle.conflicts.proofs.RelationLaws.{and_none}

zeros : (n j : ℕ) → ◌≡◌ {A = ℕ} (get_or (replicate n 0) j 0) 0
zeros zero j = refl
zeros (suc n) zero = refl
zeros (suc n) (suc j) = zeros n j

-- the first n entries are as they should be, and the others as they were: no job
pub filled_front : (P : ℕ → ℕ → Type 0) (n m : ℕ) (front : List ℕ) → length front ≡ length {A = ℕ} (take n (replicate 32 0)) → n ≤ 32 → length front ≤ m → ((j : ℕ) → j < m → P j (get_or front j 0)) → Filled n P (front ++ drop n (replicate 32 0))
filled_front P n m front e small all f = record {
  as_long = length_kept n front (replicate 32 0) full room ∙ length-replicate {A = ℕ} 32 0;
  done = λ j h. rw (in_front n front (replicate 32 0) full j h) (f j (omega (arith, full)));
  rest = λ j h. behind_front n front (replicate 32 0) full j h ∙ zeros 32 j;
}
  where
    room : n ≤ length {A = ℕ} (replicate 32 0)
    room = omega (arith, length-replicate {A = ℕ} 32 0)

    full : length front ≡ n
    full = e ∙ length-take-le n (replicate 32 0) room

-- the same by a weaker test of each entry
pub filled_as : (P Q : ℕ → ℕ → Type 0) (n : ℕ) (sets : List ℕ) → ((j m : ℕ) → P j m → Q j m) → Filled n P sets → Filled n Q sets
filled_as P Q n sets f p = record { as_long = p.as_long; done = λ j h. f j _ (p.done j h); rest = p.rest }

one_less : (p q : Bool) → one p - one q ≡ one (not q && p)
unfolding one
one_less true true = refl
one_less true false = refl
one_less false true = refl
one_less false false = refl

module _ (kind writers : List ℕ) (j k : ℕ) where
  -- the jobs that write over one of the first n operations of kind k
  unfoldable pub OverFirst : ℕ → ℕ → Type 0
  OverFirst n m = Has m (λ x. among n (λ o. in? (over kind writers (16 * j + o) k) x))

  pub over_none : (m : ℕ) → m ≡ 0 → OverFirst 0 m
  unfolding OverFirst
  over_none = has_none (λ x o. in? (over kind writers (16 * j + o) k) x)

  pub over_more : (n m v r : ℕ) → OverFirst n m → v ≡ over kind writers (16 * j + n) k → ((x : ℕ) → bit r x ≡ max (bit m x) (bit v x)) → OverFirst (n + 1) r
  unfolding OverFirst
  over_more n m v r h e u =
      has_more (λ x o. in? (over kind writers (16 * j + o) k) x) n m r h
      (λ x. u x ∙ ap (λ (y : ℕ). max (bit m x) y) (digit_in v x ∙ ap (λ (y : ℕ). one (in? y x)) e))

  pub over_others : (m s r : ℕ) → OverFirst 16 m → ((x : ℕ) → bit s x ≡ one (eqb j x)) → ((x : ℕ) → bit r x ≡ bit m x - bit s x) → Over kind writers k j r
  unfolding OverFirst Over
  over_others m s r h a b x = b x ∙ ap (λ (y : ℕ). bit m x - y) (a x) ∙ ap (λ (y : ℕ). y - one (eqb j x)) (h x) ∙ one_less _ _

module _ (sets : List ℕ) (j : ℕ) where
  -- those of the first n jobs whose set has job j
  unfoldable pub TurnedFirst : ℕ → ℕ → Type 0
  TurnedFirst n m = Has m (λ x. among n (λ i. eqb i x && in? (get_or sets i 0) j))

  pub turned_none : (m : ℕ) → m ≡ 0 → TurnedFirst 0 m
  unfolding TurnedFirst
  turned_none = has_none (λ x i. eqb i x && in? (get_or sets i 0) j)

  pub turned_take : (n m r : ℕ) → TurnedFirst n m → in? (get_or sets n 0) j ≡ true → ((x : ℕ) → bit r x ≡ max (bit m x) (one (eqb n x))) → TurnedFirst (n + 1) r
  unfolding TurnedFirst
  turned_take n m r h t u =
      has_more (λ x i. eqb i x && in? (get_or sets i 0) j) n m r h
      (λ x. u x ∙ ap (λ (b : Bool). max (bit m x) (one b)) (right (eqb n x) _ t))
    where
      right : (a b : Bool) → b ≡ true → a ≡ a && b
      right true b e = sym e
      right false b e = refl

  pub turned_skip : (n m : ℕ) → TurnedFirst n m → in? (get_or sets n 0) j ≡ false → TurnedFirst (n + 1) m
  unfolding TurnedFirst
  turned_skip n m h t = has_skip (λ x i. eqb i x && in? (get_or sets i 0) j) n m h (λ x. rw t (and_none (eqb n x)))

  pub turned_all : (n m : ℕ) → TurnedFirst n m → Turned n sets j m
  unfolding TurnedFirst Turned
  turned_all n m h x = h x ∙ ap one (among_at n x (λ i. in? (get_or sets i 0) j))

pub any_of : (ww wr rw : List ℕ) (j m r : ℕ) → ((k : ℕ) → bit m k ≡ max (bit (get_or ww j 0) k) (bit (get_or wr j 0) k))
    → ((k : ℕ) → bit r k ≡ max (bit m k) (bit (get_or rw j 0) k)) → Any ww wr rw j r
unfolding Any
any_of ww wr rw j m r a b k = b k ∙ ap (λ (x : ℕ). max x (bit (get_or rw j 0) k)) (a k)
