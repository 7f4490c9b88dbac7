-- Laws of the best path: it is the theory's best row of the fewest links, it exists where a path does, and it is one.
use Rattle.std.specs.Prelude.{◌≡◌, ◌⊎◌, List, [], ◌∷◌, ℕ, zero, suc, ◌≤◌, T, length, get_or}
use Rattle.std.proofs.Common.{sym, ◌∙◌, inl, inr, eq-or-lt_of_le, arith}
use Rattle.std.proofs.Math.Decide.{ℕ_discrete}
use Rattle.jobset.specs.Jobset.{bit}
use Rattle.jobset.specs.JobsetLaws.{member_lt}
use Rattle.theory.specs.Danger.{distinct?}
use Rattle.theory.specs.Shown.{Sooner}
use Rattle.theory.specs.Reach.{Best as Lowest, Path as Row}
use Rattle.theory.proofs.ReachLaws.{through_links, path_links, best_path, best_low, shortest_distinct}
use Rattle.theory.proofs.ShownLaws.{before_not}
use Rattle.chain.specs.Paths.{Edge, Open, Path, Best}
use Rattle.chain.proofs.PathLaws.{path_row, row_path}
use Rattle.chain.specs.Layers.{Way, Leads}

-- the lowest number with a property that can be decided, or none below a bound has it
lowest? : (P : ℕ → Type 0) → ((i : ℕ) → P i ⊎ ¬ P i) → (n : ℕ) → ((i : ℕ) × P i × ((j : ℕ) → P j → i ≤ j)) ⊎ ((i : ℕ) → P i → n ≤ i)
lowest? P test zero = inr (λ i p. omega arith)
lowest? P test (suc n) = elim (lowest? P test n) [
  | inl q ↦ inl q
  | inr none ↦ elim (test n) [
    | inl p ↦ inl (n, p, none)
    | inr q ↦ inr (λ i p. elim (eq-or-lt_of_le (none i p)) [ inl e ↦ absurd (q (rw e p)) | inr h ↦ h ])
  ]
]

module _ (clash : List ℕ) (shut goal : ℕ) where
  -- the lowest row of the fewest links is the best path
  pub lowest_best : (i n : ℕ) (c : List ℕ) → Lowest (Edge clash) (Open shut) (◌≡ goal) n i c → ((m : ℕ) → Leads clash shut goal m i → n ≤ m)
      → (length c ≡ n) × Best clash shut i goal c
  lowest_best i n c b fewest = (p.0, record { path = row_path clash shut i goal c p.1; least = least })
    where
      p : (length c ≡ n) × Row (Edge clash) (Open shut) (◌≡ goal) i c
      p = best_path (Edge clash) (Open shut) (◌≡ goal) n i c b

      least : (d : List ℕ) → Path clash shut i goal d → (c ≡ d) ⊎ Sooner c d
      least d w =
          let row = path_row clash shut i goal d w in
          elim (eq-or-lt_of_le (fewest (length d) (path_links (Edge clash) (Open shut) (◌≡ goal) i d row))) [
            | inl e ↦ elim (best_low (Edge clash) (Open shut) (◌≡ goal) n i c d b row (sym e)) [ inl q ↦ inl q | inr q ↦ inr (inr (p.0 ∙ e, q)) ]
            | inr h ↦ inr (inl (omega (arith, p.0)))
          ]

  -- ---- where there is a path there is a best one
  -- job j is next on n links and one more from i
  abbrev Next : ℕ → ℕ → ℕ → Type 0
  Next n i j = Edge clash i j × Way clash shut goal n j

  next? : (n i : ℕ) → ((j : ℕ) → Way clash shut goal n j ⊎ ¬ Way clash shut goal n j)
      → ((j : ℕ) × Next n i j × ((k : ℕ) → Next n i k → j ≤ k)) ⊎ ((j : ℕ) → ¬ Next n i j)
  next? n i way = elim (lowest? (Next n i) test (get_or clash i 0)) [
    | inl q ↦ inl q
    | inr none ↦ inr (λ j q. omega (arith, none j q, member_lt (get_or clash i 0) j q.0))
  ]
    where
      test : (j : ℕ) → Next n i j ⊎ ¬ Next n i j
      test j = elim (ℕ_discrete (bit (get_or clash i 0) j) 1) [
        | yes e ↦ elim (way j) [ inl w ↦ inl (e, w) | inr q ↦ inr (λ w. q w.1) ]
        | no q ↦ inr (λ w. q w.0)
      ]

  way? : (n k : ℕ) → Way clash shut goal n k ⊎ ¬ Way clash shut goal n k
  way? zero k = elim (ℕ_discrete k goal) [ yes e ↦ inl e | no q ↦ inr q ]
  way? (suc n) k = elim (ℕ_discrete (bit shut k) 0) [
    | yes o ↦ elim (next? n k (way? n)) [ inl q ↦ inl (o, q.0, q.1.0, q.1.1) | inr none ↦ inr (λ w. none w.1 (w.2, w.3)) ]
    | no q ↦ inr (λ w. q w.0)
  ]

  leads? : (i n : ℕ) → Leads clash shut goal n i ⊎ ¬ Leads clash shut goal n i
  leads? i zero = way? zero i
  leads? i (suc n) = elim (next? n i (way? n)) [ inl q ↦ inl (q.0, q.1.0, q.1.1) | inr none ↦ inr (λ w. none w.0 (w.1, w.2)) ]

  lowest_row : (n i : ℕ) → Leads clash shut goal n i → (c : List ℕ) × Lowest (Edge clash) (Open shut) (◌≡ goal) n i c
  lowest_row zero i w = ([], w)
  lowest_row (suc n) i w = elim (next? n i (way? n)) [
    | inl q ↦
        let rest = lowest_row n q.0 (through_links (Edge clash) (Open shut) (◌≡ goal) n q.0 q.1.1) in
        (q.0 ∷ rest.0, (q.1.0, q.1.1, λ k e v. q.2 k (e, v), rest.1))
    | inr none ↦ absurd (none w.0 (w.1, w.2))
  ]

  pub best_some : (i : ℕ) (c : List ℕ) → Path clash shut i goal c → (d : List ℕ) × Best clash shut i goal d
  best_some i c p =
      let w = path_links (Edge clash) (Open shut) (◌≡ goal) i c (path_row clash shut i goal c p) in
      elim (lowest? (λ n. Leads clash shut goal n i) (leads? i) (suc (length c))) [
        | inl q ↦ let d = lowest_row q.0 i q.1 in (d.0, (lowest_best i q.0 d.0 d.1 q.2).1)
        | inr none ↦ absurd (omega (arith, none (length c) w))
      ]

  -- ---- it is one, and comes by no job twice
  pub best_once : (i : ℕ) (c d : List ℕ) → Best clash shut i goal c → Best clash shut i goal d → c ≡ d
  best_once i c d a b = cases (a.least d b.path) (b.least c a.path)
    where
      cases : (c ≡ d) ⊎ Sooner c d → (d ≡ c) ⊎ Sooner d c → c ≡ d
      cases (inl e) k = e
      cases (inr h) (inl e) = sym e
      cases (inr (inl h)) (inr (inl k)) = absurd (omega arith)
      cases (inr (inl h)) (inr (inr k)) = absurd (omega arith)
      cases (inr (inr h)) (inr (inl k)) = absurd (omega arith)
      cases (inr (inr h)) (inr (inr k)) = absurd (before_not c d h.1 k.1)

  pub best_distinct : (i : ℕ) (c : List ℕ) → Best clash shut i goal c → T (distinct? (i ∷ c))
  best_distinct i c b = shortest_distinct (Edge clash) (Open shut) (◌≡ goal) i c (path_row clash shut i goal c b.path) short
    where
      short : (d : List ℕ) → Row (Edge clash) (Open shut) (◌≡ goal) i d → length c ≤ length d
      short d w = elim (b.least d (row_path clash shut i goal d w)) [
        | inl e ↦ rw e (omega arith)
        | inr (inl h) ↦ omega arith
        | inr (inr h) ↦ omega (arith, h.0)
      ]
