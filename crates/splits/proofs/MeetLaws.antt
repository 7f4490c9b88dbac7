-- Whether first and last jobs are joined, by one spread.
use mathlib.Core.Path.{◌≡◌, ap}
use mathlib.Core.Logic.{◌⊎◌, inl, inr}
use mathlib.Core.Bool.{false}
use mathlib.Core.List.{List}
use Prim.Native.Nat.{ℕ, ◌^◌, ◌<◌, min}
use native.Mathlib.Omega.{arith}
use lib.Dec.{ltb}
use borrow.Author.Tests.{ltb-true, ltb-false}
use Rattle.jobset.specs.Jobset.{bit}
use Rattle.jobset.specs.JobsetLaws.{bit_lt, bit_none, some_member, member_pos}
use Rattle.chain.specs.Paths.{Joined}
use Rattle.splits.specs.Splits.{Meets, Meeting}
use Rattle.splits.proofs.JoinedLaws.{joined_meets}

-- no job is in the empty set
nobody : (m k : ℕ) → m ≡ 0 → ¬ (bit m k ≡ 1)
nobody m k z e = omega (arith, bit_none k, ap (λ (x : ℕ). bit x k) z)

module _ (clash_of : List ℕ) (shut first last : ℕ) where
  none : ¬ Meets clash_of shut first last → Meeting clash_of shut first last false
  none f = record { met = λ e. absurd (omega (arith, ltb-true 0 0 e)); apart = λ _. f }

  pub no_ends : (first ≡ 0) ⊎ ((first ≡ 0 → ⊥) × (last ≡ 0)) → Meeting clash_of shut first last false
  no_ends (inl z) = none (λ m. nobody first m.0 z m.3)
  no_ends (inr z) = none (λ m. nobody last m.1 z.1 m.4)

  pub spread_meets : (all both : ℕ) → Joined clash_of shut first all → ((k : ℕ) → bit both k ≡ min (bit all k) (bit last k)) → both < 2 ^ 32 → Meeting clash_of shut first last (ltb 0 both)
  spread_meets all both w e small = record {
    met = λ t. let q = some_member 32 both (ltb-true 0 both t) small in
        (joined_meets clash_of shut first last all w).0 (q.0, omega (arith, e q.0, q.2, bit_lt all q.0), omega (arith, e q.0, q.2, bit_lt last q.0));
    apart = λ f m. let q = (joined_meets clash_of shut first last all w).1 m in omega (arith, ltb-false 0 both f, member_pos both q.0 (omega (arith, e q.0, q.1, q.2)));
  }
