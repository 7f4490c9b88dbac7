-- Laws of paths, for the crates above.
use Rattle.std.specs.Prelude.{◌≡◌, refl, ℕ, ◌-◌, ◌^◌, ◌<◌, ◌≤◌, length, get_or}
use Rattle.std.proofs.Common.{ap, ◌∙◌, inl, inr, eq-zero-or-pos, arith}
use mathlib.Core.List.Memᴰ
use mathlib.Core.List.{List, [], ◌∷◌, ◌++◌, Memᴰ}
use Rattle.std.proofs.Math.ListN.{get_or-eq_default}
use Rattle.jobset.specs.Jobset.{bit}
use Rattle.jobset.specs.JobsetLaws.{bit_none, member_below}
use Rattle.theory.specs.Reach.{Path as Row}
use Rattle.theory.proofs.ReachLaws.{path_links, links_path, links_back}
use Rattle.chain.specs.Paths.{Edge, Open, Path}

-- a job that has no row conflicts with none
pub edge_row : (clash : List ℕ) (i j n : ℕ) → length clash ≤ n → Edge clash i j → i < n
edge_row clash i j n h e = elim (eq-zero-or-pos (n - i)) [
  | inl z ↦ absurd (omega (arith, ap (λ (x : ℕ). bit x j) (get_or-eq_default clash 0 {n = i} (omega arith)) ∙ bit_none j))
  | inr l ↦ omega arith
]

module _ (clash : List ℕ) (shut : ℕ) where
  -- a path goes on from its last job where that is open
  pub path_more : (i j l : ℕ) (c : List ℕ) → Path clash shut i j c → Open shut j → Edge clash j l → Path clash shut i l (c ++ (l ∷ []))
  path_more i j l [] p o e = (rw p e, refl)
  path_more i j l (k ∷ []) p o e = (p.0, rw p.1 o, (rw p.1 e, refl))
  path_more i j l (k ∷ m ∷ c) p o e = (p.0, p.1, path_more k j l (m ∷ c) p.2 o e)

  -- ---- the jobs of a path
  -- what holds of each job that some job conflicts with holds of the jobs of a path
  pub path_each : (P : ℕ → Type 0) → ((i j : ℕ) → Edge clash i j → P j) → (i goal : ℕ) (c : List ℕ) → Path clash shut i goal c → (j : ℕ) → Memᴰ j c → P j
  path_each P each i goal [] p j m = elim m [ ]
  path_each P each i goal (k ∷ []) p j m = elim (Memᴰ.cases_cons m) [ inl e ↦ rw e (each i k p.0) | inr n ↦ elim n [ ] ]
  path_each P each i goal (k ∷ l ∷ c) p j m = elim (Memᴰ.cases_cons m) [
    | inl e ↦ rw e (each i k p.0)
    | inr n ↦ path_each P each k goal (l ∷ c) p.2 j n
  ]

  -- they are below 32 where the sets are that wide
  pub path_below : ((i : ℕ) → get_or clash i 0 < 2 ^ 32) → (i goal : ℕ) (c : List ℕ) → Path clash shut i goal c → (j : ℕ) → Memᴰ j c → j < 32
  path_below wide = path_each (λ j. j < 32) (λ i j e. member_below 32 (get_or clash i 0) j (wide i) e)

  -- ---- a path in the theory's words
  pub path_row : (i goal : ℕ) (c : List ℕ) → Path clash shut i goal c → Row (Edge clash) (Open shut) (◌≡ goal) i c
  path_row i goal [] p = p
  path_row i goal (j ∷ []) p = (p.0, tt, p.1)
  path_row i goal (j ∷ k ∷ c) p = (p.0, p.1, path_row j goal (k ∷ c) p.2)

  pub row_path : (i goal : ℕ) (c : List ℕ) → Row (Edge clash) (Open shut) (◌≡ goal) i c → Path clash shut i goal c
  row_path i goal [] p = p
  row_path i goal (j ∷ []) p = (p.0, p.2)
  row_path i goal (j ∷ k ∷ c) p = (p.0, p.1, row_path j goal (k ∷ c) p.2)

  -- where conflicts go both ways, a path leads back
  pub path_back : ((i j : ℕ) → Edge clash i j → Edge clash j i) → (i goal : ℕ) (c : List ℕ) → Path clash shut i goal c
      → (d : List ℕ) × (length d ≡ length c) × Path clash shut goal i d
  path_back turn i goal c p =
      let there = path_links (Edge clash) (Open shut) (◌≡ goal) i c (path_row i goal c p) in
      let back = links_back (Edge clash) (Open shut) turn (length c) i goal there in
      let q = links_path (Edge clash) (Open shut) (◌≡ i) (length c) goal back in
      (q.0, q.1, row_path goal i q.0 q.2)
