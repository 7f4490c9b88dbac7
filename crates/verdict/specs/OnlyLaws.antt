-- The levels of all jobs where only one is not at SSI.
use Rattle.std.specs.Prelude.{◌≡◌, refl, Bool, true, false, not, cond, ℕ, T, eqb}
use Rattle.std.proofs.Math.Dec.{eqb_refl}
use Rattle.theory.proofs.FindLaws.{unequal}
use Rattle.verdict.specs.Needed.{only}

-- the one job is at its level, every other at SSI
pub only_at : (j l : ℕ) → only j l j ≡ l
only_at j l = at (eqb j j) (eqb_refl j)
  where
    at : (b : Bool) → T b → cond b l 2 ≡ l
    at true t = refl
    at false t = absurd t

pub only_other : (j l k : ℕ) → ¬ (j ≡ k) → only j l k ≡ 2
only_other j l k ne = at (eqb j k) (unequal j k ne)
  where
    at : (b : Bool) → T (not b) → cond b l 2 ≡ 2
    at true t = absurd t
    at false t = refl
