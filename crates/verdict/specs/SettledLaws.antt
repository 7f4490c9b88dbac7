-- The statements of the verdict and of the lowest levels allow one answer each.
use Rattle.std.specs.Prelude.{◌≡◌, refl, Bool, true, false, List, ◌++◌, ℕ, length, take, drop}
use Rattle.std.proofs.Common.{sym, ap₂, ◌∙◌, take-append-drop}
use Rattle.theory.specs.Danger.{Rule, Jobs}
use Rattle.theory.specs.Guards.{Paper}
use Rattle.theory.proofs.GuardLaws.{paper_lawful}
use Rattle.theory.proofs.RobustLaws.{lowest_once, one_asked}
use Rattle.verdict.specs.Verdict.{Tells, Lowers}

pub one_verdict : {P : Type 0} (a b : Bool) → Tells P a → Tells P b → a ≡ b
one_verdict true true s t = refl
one_verdict true false s t = absurd (t.no refl (s.yes refl))
one_verdict false true s t = absurd (s.no refl (t.yes refl))
one_verdict false false s t = refl

-- a list is its first places and the others
pub same_bytes : (n : ℕ) (xs ys : List ℕ) → take n xs ≡ take n ys → drop n xs ≡ drop n ys → xs ≡ ys
same_bytes n xs ys first rest = sym (take-append-drop n xs) ∙ ap₂ ◌++◌ first rest ∙ take-append-drop n ys

pub one_lowering : (r : Rule) (js : Jobs r) (before xs ys : List ℕ) (m n : ℕ) → Lowers r js before xs m → Lowers r js before ys n → (xs ≡ ys) × (m ≡ n)
one_lowering r js before xs ys m n a b = (
  same_bytes (length js) xs ys
      (lowest_once r (Paper r) (paper_lawful r) js 2 (take (length js) xs) (take (length js) ys) a.lowest b.lowest)
      (a.kept ∙ sym b.kept),
  one_asked r (Paper r) (paper_lawful r) js 2 m n a.number b.number,
)
