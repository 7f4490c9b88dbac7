-- Each statement of this crate allows one answer (document 01, "How firmly each call is tied down").
use Rattle.std.specs.Prelude.{◌≡◌, refl, List, ◌∷◌, ◌++◌, map, ℕ, zero, suc, ◌^◌, ◌<◌, length, drop, Option, None, Some}
use Rattle.std.proofs.Common.{sym, ap, ap₂, ◌∙◌, inl, inr, arith}
use Rattle.jobset.specs.Jobset.{bit}
use Rattle.jobset.specs.JobsetLaws.{bit_lt, digit, same_bits}
use Rattle.chain.specs.Paths.{Joined, Shows}
use Rattle.chain.proofs.BestLaws.{best_once}

module _ (clash : List ℕ) (shut : ℕ) where
  pub joined_once : (from r s : ℕ) → r < 2 ^ 32 → s < 2 ^ 32 → Joined clash shut from r → Joined clash shut from s → r ≡ s
  joined_once from r s small small' a b = same_bits 32 r s small small' (λ k h. same k)
    where
      into : (x y : ℕ) → Joined clash shut from x → Joined clash shut from y → (k : ℕ) → bit x k ≡ 1 → bit y k ≡ 1
      into x y p q k h = let w = p.sound k h in q.whole w.0 k w.1 w.2 w.3

      same : (k : ℕ) → bit r k ≡ bit s k
      same k = elim (digit (bit r k) (bit_lt r k)) [
        | inr o ↦ o ∙ sym (into r s a b k o)
        | inl z ↦ elim (digit (bit s k) (bit_lt s k)) [ inl y ↦ z ∙ sym y | inr o ↦ absurd (omega (arith, into s r b a k o)) ]
      ]

  pub shows_once : (first last : ℕ) (before after after' : List ℕ) (n n' : Option ℕ) → Shows clash shut first last before after n
      → Shows clash shut first last before after' n' → (n ≡ n') × (after ≡ after')
  shows_once first last before after after' None None a b = (refl, a.1 ∙ sym b.1)
  shows_once first last before after after' None (Some zero) a b = absurd b
  shows_once first last before after after' None (Some (suc n')) a b = absurd (a.0 b.chain b.best.path)
  shows_once first last before after after' (Some zero) n' a b = absurd a
  shows_once first last before after after' (Some (suc n)) None a b = absurd (b.0 a.chain a.best.path)
  shows_once first last before after after' (Some (suc n)) (Some zero) a b = absurd b
  shows_once first last before after after' (Some (suc n)) (Some (suc n')) a b =
      let e = best_once clash shut last first a.chain b.chain a.best b.best in
      let l : n ≡ n' = sym a.long ∙ ap length e ∙ b.long in (
        ap (λ (m : ℕ). Some (suc m)) l,
        a.jobs ∙ ap₂ (λ (c : List ℕ) (m : ℕ). map suc (first ∷ c) ++ drop (suc m) before) e l ∙ sym b.jobs,
      )
