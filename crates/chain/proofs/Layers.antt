-- Layer by layer from the goal back, until one meets the first job or nothing is left.
use mathlib.Core.Path.{◌≡◌, sym, ap, ◌∙◌}
use mathlib.Core.Logic.{◌⊎◌, inl, inr}
use mathlib.Core.List.{List}
use Prim.Native.Nat.{ℕ, zero, suc, ◌+◌, ◌-◌, ◌^◌, ◌<◌, ◌≤◌, min, max}
use native.Mathlib.Nat.{eq-or-lt_of_le, eq-zero-or-pos, suc_inj}
use native.Mathlib.Numerals.{add-one}
use native.Mathlib.Omega.{arith}
use lib.Dec.{eqb}
use lib.ListN.{length, get_or, set, length-set}
use lib.Seq.{get_or-set_same, get_or-set_other}
use Rattle.std.specs.Prelude.{Some, None}
use Rattle.jobset.specs.Jobset.{bit, one, size}
use Rattle.jobset.specs.JobsetLaws.{bit_lt, bit_none, digit, member_below, some_member, single_is, single_has}
use Rattle.jobset.specs.SizeLaws.{size_le, size_some, size_apart, size_missing}
use Rattle.theory.proofs.ReachLaws.{through_links}
use Rattle.chain.specs.Paths.{Edge, Open, Both}
use Rattle.chain.proofs.PathLaws.{edge_row}
use Rattle.chain.specs.Layers.{Around, Way, Leads, Far, Layer, Counted}

module _ (clash : List ℕ) (shut goal : ℕ) where
  -- the jobs seen are those of the layer and those with a shorter way
  pub record Reach (n seen layer : ℕ) : Type 0 where
    pub far : Layer clash shut goal n layer
    pub sound : (k : ℕ) → bit seen k ≡ 1 → (bit layer k ≡ 1) ⊎ ((m : ℕ) × (m < n) × Way clash shut goal m k)
    pub whole : (k m : ℕ) → Way clash shut goal m k → m ≤ n → bit seen k ≡ 1

  -- the first layer is the goal alone
  module _ (layer : ℕ) (alone : (k : ℕ) → bit layer k ≡ one (eqb goal k)) where
    at_goal : (k m : ℕ) → Way clash shut goal m k → m ≤ 0 → bit layer k ≡ 1
    at_goal k zero w h = alone k ∙ ap (λ (x : ℕ). one (eqb goal x)) w ∙ single_has goal
    at_goal k (suc m) w h = absurd (omega arith)

    reach_starts : Reach 0 layer layer
    reach_starts = record {
      far = record {
        sound = λ k h. record { goes = sym (single_is goal k (sym (alone k) ∙ h)); least = λ m w. omega arith };
        whole = λ k f. at_goal k 0 f.goes (omega arith);
      };
      sound = λ k h. inl h;
      whole = at_goal;
    }

  -- the next layer
  module _ (n seen layer near clear layer' seen' : ℕ) (both : Both clash) (rows : length clash ≡ 32) (small : layer < 2 ^ 32) (small' : layer' < 2 ^ 32)
      (r : Reach n seen layer) (around : Around clash layer near)
      (is_clear : (k : ℕ) → bit clear k ≡ bit near k - bit shut k)
      (is_layer : (k : ℕ) → bit layer' k ≡ bit clear k - bit seen k)
      (is_seen : (k : ℕ) → bit seen' k ≡ max (bit seen k) (bit layer' k))
    where
      no_shorter : (k : ℕ) → bit seen k ≡ 0 → (m : ℕ) → Way clash shut goal m k → suc n ≤ m
      no_shorter k z m w = elim (eq-zero-or-pos (suc n - m)) [ inl h ↦ omega arith | inr h ↦ absurd (omega (arith, r.whole k m w (omega arith))) ]

      sounds : (k : ℕ) → bit layer' k ≡ 1 → Far clash shut goal k (suc n)
      sounds k h =
          let e = around.sound k (omega (arith, is_layer k, is_clear k, bit_lt near k)) in
          let turned = both e.0 k (member_below 32 layer e.0 small e.1) (member_below 32 layer' k small' h) e.2 in
          record {
            goes = (omega (arith, is_layer k, is_clear k, bit_lt near k), e.0, turned, (r.far.sound e.0 e.1).goes);
            least = no_shorter k (omega (arith, is_layer k, is_clear k, bit_lt near k));
          }

      wholes : (k : ℕ) → bit seen k ≡ 0 → Far clash shut goal k (suc n) → bit layer' k ≡ 1
      wholes k z f =
          let w = f.goes in
          let l = r.far.whole w.1 (record { goes = w.3; least = λ m v. omega (arith, f.least (suc m) (w.0, w.1, w.2, v)) }) in
          let turned = both k w.1 (edge_row clash k w.1 32 (omega arith) w.2) (member_below 32 layer w.1 small l) w.2 in
          omega (arith, is_layer k, is_clear k, around.whole w.1 k l turned, w.0)

      unreached : (k : ℕ) → Far clash shut goal k (suc n) → bit seen k ≡ 0
      unreached k f = elim (digit (bit seen k) (bit_lt seen k)) [
        | inl z ↦ z
        | inr h ↦ elim (r.sound k h) [
          | inl l ↦ absurd (omega (arith, f.least n (r.far.sound k l).goes))
          | inr w ↦ absurd (omega (arith, f.least w.0 w.2))
        ]
      ]

      within : (k m : ℕ) → Way clash shut goal m k → m ≤ suc n → bit seen' k ≡ 1
      within k m w h = elim (digit (bit seen k) (bit_lt seen k)) [
        | inl z ↦
            let e : m ≡ suc n = omega (arith, no_shorter k z m w) in
            omega (arith, is_seen k, wholes k z (record { goes = rw e at w; least = no_shorter k z }))
        | inr o ↦ omega (arith, is_seen k, bit_lt layer' k)
      ]

      came : (k : ℕ) → bit seen' k ≡ 1 → (bit layer' k ≡ 1) ⊎ ((m : ℕ) × (m < suc n) × Way clash shut goal m k)
      came k h = elim (digit (bit seen k) (bit_lt seen k)) [
        | inl z ↦ inl (omega (arith, is_seen k))
        | inr o ↦ elim (r.sound k o) [
          | inl l ↦ inr (n, omega arith, (r.far.sound k l).goes)
          | inr w ↦ inr (w.0, omega (arith, w.1), w.2)
        ]
      ]

      reach_more : Reach (n + 1) seen' layer'
      reach_more = rw add-one (record {
        far = record { sound = sounds; whole = λ k f. wholes k (unreached k f) f };
        sound = came;
        whole = within;
      })

      -- each layer has a job that none before it had
      reach_grows : 0 < layer → n + size 32 layer ≤ size 32 seen → (n + 1) + size 32 layer' ≤ size 32 seen'
      reach_grows p h =
          let m = some_member 32 layer p small in
          omega (arith, size_some 32 layer m.0 m.1 m.2, size_apart 32 seen layer' seen' (λ k q. disjoint k))
        where
          disjoint : (k : ℕ) → bit seen k + bit layer' k ≤ bit seen' k
          disjoint k = omega (arith, is_seen k, is_layer k, is_clear k, bit_lt near k)

  -- ---- the count of links
  module _ (first : ℕ) where
    -- more than n links are needed from `first`
    abbrev More : ℕ → Type 0
    More n = (m : ℕ) → Leads clash shut goal m first → n < m

    abbrev Stored : List ℕ → ℕ → Type 0
    Stored layers n = (i : ℕ) → i < n → Layer clash shut goal i (get_or layers i 0)

    -- the state of the loop: `layers` holds the layers before this one
    pub record Going (layers : List ℕ) (n seen layer : ℕ) : Type 0 where
      pub room : length layers ≡ 32
      pub small : (seen < 2 ^ 32) × (layer < 2 ^ 32)
      pub grown : n + size 32 layer ≤ size 32 seen
      pub reach : Reach n seen layer
      pub more : More n
      pub stored : Stored layers n

    pub going_starts : (layers : List ℕ) (layer : ℕ) → ¬ (first ≡ goal) → length layers ≡ 32 → layer < 2 ^ 32
        → ((k : ℕ) → bit layer k ≡ one (eqb goal k)) → Going layers 0 layer layer
    going_starts layers layer apart room small alone = record {
      room = room;
      small = (small, small);
      grown = omega arith;
      reach = reach_starts layer alone;
      more = some;
      stored = λ i h. absurd (omega arith);
    }
      where
        some : More 0
        some zero w = absurd (apart w)
        some (suc m) w = omega arith

    pub going_below : (layers : List ℕ) (n seen layer : ℕ) → Going layers n seen layer → 0 < layer → n < 32
    going_below layers n seen layer g p =
        let m = some_member 32 layer p g.small.1 in
        omega (arith, g.grown, size_le 32 seen, size_some 32 layer m.0 m.1 m.2)

    -- no layer is left, so whatever has a way has one that is shorter
    pub going_ends : (layers : List ℕ) (n seen layer : ℕ) → layer ≡ 0 → Going layers n seen layer → Counted clash shut goal first layers None
    going_ends layers n seen layer z g = none
      where
        cut : (k m : ℕ) → Way clash shut goal m k → m ≤ n → (l : ℕ) × (l < n) × Way clash shut goal l k
        cut k m w h = elim (g.reach.sound k (g.reach.whole k m w h)) [
          | inl o ↦ absurd (omega (arith, bit_none k, ap (λ (x : ℕ). bit x k) z))
          | inr s ↦ s
        ]

        shorter : (m k : ℕ) → Way clash shut goal m k → (l : ℕ) × (l < n) × Way clash shut goal l k
        shorter zero k w = cut k 0 w (omega arith)
        shorter (suc m) k w = let s = shorter m w.1 w.3 in cut k (suc s.0) (w.0, w.1, w.2, s.2) (omega (arith, s.1))

        none : (m : ℕ) → ¬ Leads clash shut goal m first
        none zero w = omega (arith, g.more 0 w)
        none (suc m) w = let s = shorter m w.0 w.2 in omega (arith, g.more (suc s.0) (w.0, w.1, s.2), s.1)

    -- after 32 layers none is left
    pub going_full : (layers : List ℕ) (n seen layer : ℕ) → 32 ≤ n → Going layers n seen layer → Counted clash shut goal first layers None
    going_full layers n seen layer h g = elim (eq-zero-or-pos layer) [
      | inl z ↦ going_ends layers n seen layer z g
      | inr p ↦ absurd (omega (arith, going_below layers n seen layer g p))
    ]

    -- one turn of the loop: the layer is stored, and met with what `first` conflicts with
    module _ (layers : List ℕ) (n seen layer meet : ℕ) (g : Going layers n seen layer) (some : 0 < layer)
        (is_meet : (k : ℕ) → bit meet k ≡ min (bit (get_or clash first 0) k) (bit layer k))
      where
        stored_more : Stored (set layers n layer) (n + 1)
        stored_more i h = elim (eq-or-lt_of_le {n = i} {m = n} (omega arith)) [
          | inl e ↦ rw e (rw (get_or-set_same layers n layer 0 (omega (arith, g.room, going_below layers n seen layer g some))) g.reach.far)
          | inr q ↦ rw (get_or-set_other layers n i layer 0 (λ e. omega arith)) (g.stored i q)
        ]

        -- the first job is not seen, so the layers do not have all 32 jobs
        unseen_first : bit seen first ≡ 0
        unseen_first = elim (digit (bit seen first) (bit_lt seen first)) [
          | inl z ↦ z
          | inr o ↦ elim (g.reach.sound first o) [
            | inl l ↦ absurd (late n (g.reach.far.sound first l).goes (omega arith))
            | inr w ↦ absurd (late w.0 w.2 (omega (arith, w.1)))
          ]
        ]
          where
            late : (m : ℕ) → Way clash shut goal m first → m ≤ n → ⊥
            late m w h = omega (arith, g.more m (through_links (Edge clash) (Open shut) (◌≡ goal) m first w))

        pub going_found : first < 32 → 0 < meet → meet < 2 ^ 32 → Counted clash shut goal first (set layers n layer) (Some (n + 1))
        going_found small p f =
            let k = some_member 32 layer some g.small.1 in
            let m = some_member 32 meet p f in
            let far = g.reach.far.sound m.0 (omega (arith, is_meet m.0, m.2, bit_lt layer m.0)) in
            rw add-one (record {
              room = omega (arith, g.grown, size_some 32 layer k.0 k.1 k.2, size_missing 32 seen first small unseen_first);
              leads = (m.0, omega (arith, is_meet m.0, m.2, bit_lt (get_or clash first 0) m.0), far.goes);
              least = g.more;
              stored = rw add-one at stored_more;
            })

        more_more : meet ≡ 0 → More (n + 1)
        more_more z m w = elim (eq-or-lt_of_le (g.more m w)) [ inl e ↦ absurd (met m e w) | inr h ↦ omega arith ]
          where
            met : (m : ℕ) → suc n ≡ m → Leads clash shut goal m first → ⊥
            met zero e w = omega arith
            met (suc m) e w =
                let far : Far clash shut goal w.0 n = record { goes = rw (suc_inj e) w.2; least = λ l v. omega (arith, g.more (suc l) (w.0, w.1, v)) } in
                omega (arith, is_meet w.0, ap (λ (x : ℕ). bit x w.0) z, bit_none w.0, w.1, g.reach.far.whole w.0 far)

        pub going_more : (near clear layer' seen' : ℕ) → meet ≡ 0 → Both clash → length clash ≡ 32 → layer' < 2 ^ 32 → seen' < 2 ^ 32
            → Around clash layer near → ((k : ℕ) → bit clear k ≡ bit near k - bit shut k) → ((k : ℕ) → bit layer' k ≡ bit clear k - bit seen k)
            → ((k : ℕ) → bit seen' k ≡ max (bit seen k) (bit layer' k)) → Going (set layers n layer) (n + 1) seen' layer'
        going_more near clear layer' seen' z both rows small small' around is_clear is_layer is_seen = record {
          room = length-set layers n layer ∙ g.room;
          small = (small', small);
          grown = reach_grows n seen layer near clear layer' seen' both rows g.small.1 small g.reach around is_clear is_layer is_seen some g.grown;
          reach = reach_more n seen layer near clear layer' seen' both rows g.small.1 small g.reach around is_clear is_layer is_seen;
          more = more_more z;
          stored = stored_more;
        }
