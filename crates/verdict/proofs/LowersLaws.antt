-- Levels that are written to the front of a list one by one, and counted.
use mathlib.Core.Path.{◌≡◌, refl, sym, ap, ◌∙◌}
use mathlib.Core.List.{List, [], ◌∷◌, ◌++◌}
use Prim.Native.Nat.{ℕ, zero, suc, ◌+◌, ◌≤◌, ◌<◌, min}
use native.Mathlib.Omega.{arith}
use mir.Val.{bool_byte}
use lib.Dec.{ltb}
use borrow.Author.Tests.{lt-ltb}
use native.Mathlib.Numerals.{add-one}
use native.Mathlib.Decide.{ℕ_discrete}
use lib.ListN.{length, take, drop, set, get_or, length-set, length-drop}
use lib.Seq.{take-suc-set, get_or-set_same, get_or-set_other, length-take-le}
use Rattle.std.proofs.lemmas.List.{take_at, drop_at, take_all, length-append}
use Rattle.theory.specs.Danger.{Rule, Jobs}
use Rattle.theory.specs.Lowest.{Lowest, above}
use Rattle.verdict.specs.Verdict.{RobustFor, Lowers}
use Rattle.verdict.specs.Needed.{LowestOf}
use Rattle.verdict.specs.LowestSets.{lowest_found, asked_found}

above_append : (ls : List ℕ) (l : ℕ) → above (ls ++ (l ∷ [])) ≡ above ls + min l 1
above_append [] l = omega arith
above_append (m ∷ ls) l = omega (arith, above_append ls l)

-- The first j places of the jobs' own have levels, of which `asked` counts those above RC besides the jobs.
pub record Lowering (jobs : ℕ) (front : List ℕ) (asked j : ℕ) : Type 0 where
  pub size : length front ≡ jobs
  pub counted : asked ≡ jobs + above (take j front)
  pub few : asked ≤ jobs + j

pub lowering_start : (jobs : ℕ) (ls : List ℕ) → jobs ≤ length ls → Lowering jobs (take jobs ls) jobs 0
lowering_start jobs ls room = record { size = length-take-le jobs ls room; counted = omega arith; few = omega arith }

-- one more is counted for a level above RC
above_one : (l : ℕ) → bool_byte (ltb 0 l) ≡ min l 1
above_one zero = refl
above_one (suc l) = omega (arith, counts)
  where
    counts : bool_byte (ltb 0 (suc l)) ≡ 1
    counts = ap bool_byte (lt-ltb 0 (suc l) (omega arith))

pub lowering_next : (jobs : ℕ) (front : List ℕ) (asked j l a : ℕ) → a ≡ bool_byte (ltb 0 l) → j < length front → Lowering jobs front asked j → Lowering jobs (set front j l) (asked + a) (j + 1)
lowering_next jobs front asked j l a e h w = record {
  size = length-set front j l ∙ w.size;
  counted = rw (add-one, take-suc-set front j l h, above_append) (omega (arith, w.counted, e, above_one l));
  few = omega (arith, w.few, e, above_one l);
}

module _ (r : Rule) (js : Jobs r) where
  pub lowest_next : (ls : List ℕ) (j l : ℕ) → j < length ls → ((k : ℕ) → k < j → LowestOf r js k (get_or ls k 0)) → LowestOf r js j l → (k : ℕ) → k < j + 1 → LowestOf r js k (get_or (set ls j l) k 0)
  lowest_next ls j l h each one k hk = cases (ℕ_discrete k j)
    where
      cases : Dec (k ≡ j) → LowestOf r js k (get_or (set ls j l) k 0)
      cases (yes e) = rw (e, get_or-set_same ls j l 0 h) one
      cases (no ne) = rw (get_or-set_other ls j k l 0 ne) (each k (omega arith))

  pub lowering_ends : (jobs : ℕ) (before front : List ℕ) (asked j : ℕ) → length js ≡ jobs → jobs ≤ length before → length front ≤ j → Lowering jobs front asked j
      → ((k : ℕ) → k < j → LowestOf r js k (get_or front k 0)) → Lowers r js before (front ++ drop jobs before) asked
  lowering_ends jobs before front asked j e room done w each = record {
    lowest = rw (take_at front (drop jobs before) (length js) full) low;
    size = omega (arith, length-append front (drop jobs before), length-drop jobs before, w.size);
    kept = rw (drop_at front (drop jobs before) (length js) full, e) refl;
    number = rw number (asked_found r js front low);
  }
    where
      full : length front ≡ length js
      full = w.size ∙ sym e

      low : Lowest (length js) 2 (RobustFor r js) front
      low = lowest_found r js front full (λ k h. each k (omega (arith, h, full)))

      number : asked ≡ length js + above front
      number = omega (arith, w.counted, e, ap above (take_all j front done))
