-- Laws of the checks of a list of levels and of an answer buffer.
-- Assumes nothing.
use Prim.Native.Nat.{ℕ, suc, ◌+◌, ◌≤◌, ◌<◌}
use mathlib.Core.Path.{◌≡◌, refl}
use mathlib.Core.List.{List, [], ◌∷◌}
use Rattle.std.specs.Prelude.{Option, Some, None, nat_lt, cond, Bool, true, false}
use Rattle.std.specs.List.{position_from}
use native.Mathlib.Numerals.{add-one}
use native.Mathlib.Decide.{ℕ_discrete, dec_le}
use native.Mathlib.Omega.{arith}
use borrow.Author.Tests.{lt-ltb, le-ltb, eq-eqb, ne_eqb}
use lib.ListN.{length, get_or, drop}
use lib.Seq.{drop-cons}
use Rattle.sheet.specs.Step.{Step, ok, fault, refuse}
use Rattle.planner.specs.Checks.{none_above, levels_at, room_at}

-- one level: it is above top, or the later ones decide
module _ (top : ℕ) (ls : List ℕ) (i : ℕ) where
  pub above_here : i < length ls → top < get_or ls i 0 → none_above top i (drop i ls) ≡ fault 14 i
  unfolding none_above refuse
  above_here h l = rw (drop-cons ls i 0) (simp (lt-ltb _ _ l))

  pub above_later : i < length ls → get_or ls i 0 ≤ top → none_above top i (drop i ls) ≡ none_above top (i + 1) (drop (i + 1) ls)
  unfolding none_above refuse
  above_later h l = rw (add-one i, drop-cons ls i 0) (simp (le-ltb _ _ l))

-- the first level above top, the levels being counted from i
module _ (i : ℕ) (rest : Step (Unit {0})) (later : Option ℕ) where
  at_or_later : (p : ℕ) → (later ≡ Some p → rest ≡ fault 14 p) → (b : Bool) → cond b (Some i) later ≡ Some p → refuse b 14 i rest ≡ fault 14 p
  unfolding refuse
  at_or_later p h true e = let d : i ≡ p = cc in rw d refl
  at_or_later p h false e = h e

  not_at : (later ≡ None → rest ≡ ok tt) → (b : Bool) → cond b (Some i) later ≡ None → refuse b 14 i rest ≡ ok tt
  unfolding refuse
  not_at h true e = absurd (cc)
  not_at h false e = h e

pub above_at : (top i : ℕ) (ls : List ℕ) (p : ℕ) → position_from (λ l. nat_lt top l) i ls ≡ Some p → none_above top i ls ≡ fault 14 p
unfolding none_above
above_at top i [] p e = absurd (cc)
above_at top i (l ∷ ls) p e = at_or_later i _ _ p (λ f. above_at top (suc i) ls p (rw (← add-one i) f)) (nat_lt top l) e

pub above_none : (top i : ℕ) (ls : List ℕ) → position_from (λ l. nat_lt top l) i ls ≡ None → none_above top i ls ≡ ok tt
unfolding none_above
above_none top i [] e = refl
above_none top i (l ∷ ls) e = not_at i _ _ (λ f. above_none top (suc i) ls (rw (← add-one i) f)) (nat_lt top l) e

module _ (jobs : ℕ) (ls : List ℕ) where
  pub wrong_length : (length ls ≡ jobs → ⊥) → levels_at jobs ls ≡ fault 13 0
  unfolding levels_at refuse
  wrong_length ne = simp (ne_eqb _ _ ne)

  pub right_length : length ls ≡ jobs → levels_at jobs ls ≡ none_above 2 0 ls
  unfolding levels_at refuse
  right_length e = simp (eq-eqb _ _ e)

  pub passed_length : ok tt ≡ levels_at jobs ls → length ls ≡ jobs
  passed_length e = cases (ℕ_discrete (length ls) jobs)
    where
      cases : Dec (length ls ≡ jobs) → length ls ≡ jobs
      cases (yes h) = h
      cases (no h) = let f = wrong_length h in let z : ◌≡◌ {A = ℕ} 0 1 = cc in absurd (omega arith)

module _ (jobs room : ℕ) where
  pub room_short : room < jobs → room_at jobs room ≡ fault 15 0
  unfolding room_at refuse
  room_short h = simp (lt-ltb _ _ h)

  pub room_enough : jobs ≤ room → room_at jobs room ≡ ok tt
  unfolding room_at refuse
  room_enough h = simp (le-ltb _ _ h)

  pub passed_room : ok tt ≡ room_at jobs room → jobs ≤ room
  passed_room e = cases (dec_le jobs room)
    where
      cases : Dec (jobs ≤ room) → jobs ≤ room
      cases (yes h) = h
      cases (no h) = let f = room_short (omega arith) in let z : ◌≡◌ {A = ℕ} 0 1 = cc in absurd (omega arith)
