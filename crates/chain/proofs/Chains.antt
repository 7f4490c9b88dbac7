-- The chain built job by job down the layers, and that it is the best path.
use mathlib.Core.Path.{◌≡◌, refl, ap, subst}
use mathlib.Core.Logic.{inl, inr}
use mathlib.Core.List.{List, [], ◌∷◌}
use Prim.Native.Nat.{ℕ, zero, suc, ◌+◌, ◌-◌, ◌<◌, ◌≤◌, min}
use native.Mathlib.Nat.{eq-zero-or-pos}
use native.Mathlib.Numerals.{add-one}
use native.Mathlib.Omega.{arith}
use lib.ListN.{length, get_or}
use Rattle.std.specs.Prelude.{Some, None}
use Rattle.jobset.specs.Jobset.{bit, Lowest}
use Rattle.jobset.specs.JobsetLaws.{bit_lt, member_pos}
use Rattle.theory.specs.Reach.{Best as Row}
use Rattle.theory.proofs.ReachLaws.{through_links, path_links}
use Rattle.chain.specs.Paths.{Edge, Open, Shows}
use Rattle.chain.proofs.PathLaws.{path_row}
use Rattle.chain.proofs.BestLaws.{lowest_best}
use Rattle.chain.specs.Layers.{Way, Leads, Far, Layer, Fewest, Into, Down, Steps, Ready, Built}

module _ (clash layers : List ℕ) where
  -- ---- one job
  module _ (from n meet : ℕ) (is_meet : (k : ℕ) → bit meet k ≡ min (bit (get_or clash from 0) k) (bit (get_or layers n 0) k)) where
    pub some_next : (left : ℕ) (chain : List ℕ) → left ≡ suc n → Ready clash layers chain from left → 0 < meet
    some_next left chain more r =
        let j = (subst (λ (x : ℕ). Down clash layers x from) more r.down).0 in
        member_pos meet j.0 (omega (arith, is_meet j.0, j.1.0, j.1.1))

    lowest_next : (next : ℕ) → Lowest 32 meet next → Into clash layers n from next × ((i : ℕ) → Into clash layers n from i → next ≤ i)
    lowest_next next l = (
      (omega (arith, is_meet next, l.member, bit_lt (get_or clash from 0) next), omega (arith, is_meet next, l.member, bit_lt (get_or layers n 0) next)),
      λ i e. elim (eq-zero-or-pos (next - i)) [
        | inl z ↦ omega arith
        | inr h ↦ absurd (omega (arith, l.first i (omega arith), is_meet i, e.0, e.1))
      ],
    )

    module _ (next left place : ℕ) (chain rest : List ℕ) (low : Lowest 32 meet next) (more : left ≡ suc n) (parts : chain ≡ place ∷ rest) where
      pub ready_next : Ready clash layers chain from left → Ready clash layers rest next n
      ready_next r = record {
        room = (omega (arith, r.room.0), omega (arith, r.room.1, ap length parts));
        job = low.below;
        down = (subst (λ (x : ℕ). Down clash layers x from) more r.down).1 next (lowest_next next low).0;
      }

      pub built_more : (job : ℕ) (after : List ℕ) → job ≡ suc from → Built clash layers rest after next n → Built clash layers chain (job ∷ after) from left
      built_more job after named b = record {
        chain = next ∷ b.chain;
        steps = rw more ((lowest_next next low).0, (lowest_next next low).1, b.steps);
        jobs = rw (named, more, parts) (ap (λ (l : List ℕ). suc from ∷ l) b.jobs);
      }

  pub built_end : (chain rest : List ℕ) (from left place job : ℕ) → left ≡ 0 → chain ≡ place ∷ rest → job ≡ suc from → Built clash layers chain (job ∷ rest) from left
  built_end chain rest from left place job e parts named = record { chain = []; steps = rw e tt; jobs = rw (named, e, parts) refl }

  -- ---- down the layers of the goal
  module _ (shut goal : ℕ) where
    abbrev Stored : ℕ → Type 0
    Stored n = (i : ℕ) → i < n → Layer clash shut goal i (get_or layers i 0)

    -- fewer links than n do not lead there from k
    abbrev Short : ℕ → ℕ → Type 0
    Short n k = (m : ℕ) → Leads clash shut goal m k → n ≤ m

    -- the next layer has what leads on, and only that
    next_into : (n k j : ℕ) → Stored (suc n) → Short (suc n) k → Edge clash k j → Way clash shut goal n j → Into clash layers n k j
    next_into n k j s short e w = (e, (s n (omega arith)).whole j (record { goes = w; least = λ m v. omega (arith, short (suc m) (j, e, v)) }))

    into_far : (n k j : ℕ) → Stored (suc n) → Into clash layers n k j → Far clash shut goal j n
    into_far n k j s i = (s n (omega arith)).sound j i.1

    far_leads : (n k : ℕ) → Far clash shut goal k n → Leads clash shut goal n k
    far_leads n k f = through_links (Edge clash) (Open shut) (◌≡ goal) n k f.goes

    far_short : (n k : ℕ) → Far clash shut goal k n → Short n k
    far_short n k f zero w = f.least 0 w
    far_short zero k f (suc m) w = omega arith
    far_short (suc n) k f (suc m) w = f.least (suc m) (f.goes.0, w.0, w.1, w.2)

    leads_down : (n k : ℕ) → Stored n → Leads clash shut goal n k → Short n k → Down clash layers n k
    leads_down zero k s w short = tt
    leads_down (suc n) k s w short = (
      (w.0, next_into n k w.0 s short w.1 w.2),
      λ j i. let f = into_far n k j s i in leads_down n j (λ l h. s l (omega arith)) (far_leads n j f) (far_short n j f),
    )

    steps_row : (n k : ℕ) (c : List ℕ) → Stored n → Leads clash shut goal n k → Short n k → Steps clash layers n k c → Row (Edge clash) (Open shut) (◌≡ goal) n k c
    steps_row zero k [] s w short p = w
    steps_row zero k (j ∷ c) s w short p = absurd p
    steps_row (suc n) k [] s w short p = absurd p
    steps_row (suc n) k (j ∷ c) s w short p =
        let f = into_far n k j s p.0 in
        (p.0.0, f.goes, λ i e v. p.1 i (next_into n k i s short e v), steps_row n j c (λ l h. s l (omega arith)) (far_leads n j f) (far_short n j f) p.2)

-- ---- the first job, and how many links there are from it
module _ (clash : List ℕ) (shut first last : ℕ) where
  pub fewest_same : (layers : List ℕ) → first ≡ last → Fewest clash shut last first layers 0
  fewest_same layers same = record { room = omega arith; leads = same; least = λ m w. omega arith; stored = λ i h. absurd (omega arith) }

  pub shown_none : (before : List ℕ) → ((m : ℕ) → ¬ Leads clash shut last m first) → Shows clash shut first last before before None
  shown_none before l =
      (λ c p. l (length c) (path_links (Edge clash) (Open shut) (◌≡ last) first c (path_row clash shut first last c p)), refl)

  module _ (layers : List ℕ) (links : ℕ) (f : Fewest clash shut last first layers links) where
    pub fewest_down : Down clash layers links first
    fewest_down = leads_down clash layers shut last links first f.stored f.leads f.least

    pub shown : (before after : List ℕ) → Built clash layers before after first links → Shows clash shut first last before after (Some (links + 1))
    shown before after b =
        let row = steps_row clash layers shut last links first b.chain f.stored f.leads f.least b.steps in
        let best = lowest_best clash shut last first links b.chain row f.least in
        rw add-one (record { chain = b.chain; long = best.0; best = best.1; jobs = b.jobs })
