-- The sets of first and of last jobs hold what their definitions ask.
use mathlib.Core.Path.{◌≡◌, sym, ◌∙◌}
use mathlib.Core.Bool.{true, false}
use mathlib.Core.Logic.{inl, inr}
use mathlib.Core.List.{List}
use Prim.Native.Nat.{ℕ, ◌-◌, min}
use native.Mathlib.Omega.{arith}
use borrow.Author.Tests.{eqb-true, eqb-false}
use lib.Dec.{eqb}
use Rattle.jobset.specs.Jobset.{bit, one}
use Rattle.jobset.specs.JobsetLaws.{bit_lt, digit, member_pos, single_is, single_has}
use Rattle.chain.specs.Paths.{Joined}
use Rattle.walk.specs.Sides.{Firsts, Goes, Lasts}

module _ (clash : List ℕ) (shut first last : ℕ) where
  pub firsts_none : first ≡ 0 → Firsts clash shut first last 0
  firsts_none none = record { sound = λ k e. absurd (omega (arith, member_pos 0 k e)); whole = λ j k c e h p. absurd (omega (arith, member_pos first k e)) }

  pub firsts_some : (all r : ℕ) → Joined clash shut last all → ((k : ℕ) → bit r k ≡ min (bit first k) (bit all k)) → Firsts clash shut first last r
  firsts_some all r w both = record {
    sound = λ k e. (omega (arith, both k, bit_lt first k), w.sound k (omega (arith, both k, bit_lt all k)));
    whole = λ j k c e h p. omega (arith, both k, w.whole j k c h p);
  }

module _ (clash : List ℕ) (shut watch firsts last f : ℕ) where
  pub lasts_none : eqb (bit firsts f) 1 ≡ false → Lasts clash shut watch firsts last f 0
  lasts_none none = record { sound = λ k e. absurd (omega (arith, member_pos 0 k e)); whole = λ k g. absurd (eqb-false (bit firsts f) 1 none g.first) }

  pub lasts_some : (left from all r : ℕ) → eqb (bit firsts f) 1 ≡ true → ((k : ℕ) → bit left k ≡ bit last k - min (bit watch f) (bit watch k))
      → ((k : ℕ) → bit from k ≡ one (eqb f k)) → Joined clash shut from all → ((k : ℕ) → bit r k ≡ min (bit left k) (bit all k)) → Lasts clash shut watch firsts last f r
  lasts_some left from all r is beside single w both = record { sound = goes; whole = whole }
    where
      goes : (k : ℕ) → bit r k ≡ 1 → Goes clash shut watch firsts last f k
      goes k e =
          let way = w.sound k (omega (arith, both k, bit_lt all k)) in
          let here : f ≡ way.0 = single_is f way.0 (sym (single way.0) ∙ way.2) in
          record {
            first = eqb-true (bit firsts f) 1 is;
            last = omega (arith, both k, beside k, bit_lt last k, bit_lt left k);
            six = λ h. omega (arith, both k, beside k, bit_lt last k);
            between = way.1;
            path = rw here way.3;
          }

      whole : (k : ℕ) → Goes clash shut watch firsts last f k → bit r k ≡ 1
      whole k g = elim (digit (min (bit watch f) (bit watch k)) (omega (arith, bit_lt watch f))) [
        | inl z ↦ omega (arith, both k, beside k, g.last, w.whole f k g.between (single f ∙ single_has f) g.path)
        | inr e ↦ absurd (g.six (omega (arith, e, bit_lt watch f, bit_lt watch k)))
      ]
