-- The search back from the goal, layer by layer: what the functions behind `show` promise each other.
use Rattle.std.specs.Prelude.{◌≡◌, List, [], ◌∷◌, ◌++◌, map, ℕ, zero, suc, ◌<◌, ◌≤◌, length, get_or, drop, Option, None, Some}
use Rattle.jobset.specs.Jobset.{bit}
use Rattle.theory.specs.Reach.{Through, Links}
use Rattle.chain.specs.Paths.{Edge, Open, Both}

-- the jobs that conflict with some job of a set
pub record Around (clash : List ℕ) (jobs r : ℕ) : Type 0 where
  pub sound : (k : ℕ) → bit r k ≡ 1 → (j : ℕ) × (bit jobs j ≡ 1) × Edge clash j k
  pub whole : (j k : ℕ) → bit jobs j ≡ 1 → Edge clash j k → bit r k ≡ 1

module _ (clash : List ℕ) (shut goal : ℕ) where
  -- n links lead from k to the goal, by open jobs, k too unless it is the goal
  abbrev pub Way : ℕ → ℕ → Type 0
  Way = Through (Edge clash) (Open shut) (◌≡ goal)

  -- n links lead from i to the goal, by open jobs; i itself need not be open
  abbrev pub Leads : ℕ → ℕ → Type 0
  Leads = Links (Edge clash) (Open shut) (◌≡ goal)

  -- the shortest way from k has n links
  pub record Far (k n : ℕ) : Type 0 where
    pub goes : Way n k
    pub least : (m : ℕ) → Way m k → n ≤ m

  -- the jobs of a layer are those at n links
  pub record Layer (n layer : ℕ) : Type 0 where
    pub sound : (k : ℕ) → bit layer k ≡ 1 → Far k n
    pub whole : (k : ℕ) → Far k n → bit layer k ≡ 1

  -- n links are the fewest from `first`, and `layers` holds the layers that they pass
  pub record Fewest (first : ℕ) (layers : List ℕ) (n : ℕ) : Type 0 where
    pub room : n < 32
    pub leads : Leads n first
    pub least : (m : ℕ) → Leads m first → n ≤ m
    pub stored : (i : ℕ) → i < n → Layer i (get_or layers i 0)

  -- the answer of the count of links: none where none lead to the goal
  abbrev pub Counted : (first : ℕ) (layers : List ℕ) → Option ℕ → Type 0
  Counted first layers None = (m : ℕ) → ¬ Leads m first
  Counted first layers (Some n) = Fewest first layers n

-- what the count of links asks
pub record Apart (clash : List ℕ) (first last : ℕ) : Type 0 where
  pub both : Both clash
  pub jobs : (first < 32) × (last < 32)
  pub apart : ¬ (first ≡ last)

module _ (clash layers : List ℕ) where
  -- a link from k into layer n
  abbrev pub Into : ℕ → ℕ → ℕ → Type 0
  Into n k j = Edge clash k j × (bit (get_or layers n 0) j ≡ 1)

  -- n links can be gone from k, down the layers and whatever the choice
  abbrev pub Down : ℕ → ℕ → Type 0
  Down zero k = Unit {0}
  Down (suc n) k = ((j : ℕ) × Into n k j) × ((j : ℕ) → Into n k j → Down n j)

  -- the jobs after k, each the lowest that the layer allows
  abbrev pub Steps : ℕ → ℕ → List ℕ → Type 0
  Steps zero k [] = Unit {0}
  Steps zero k (j ∷ c) = ⊥
  Steps (suc n) k [] = ⊥
  Steps (suc n) k (j ∷ c) = Into n k j × ((i : ℕ) → Into n k i → j ≤ i) × Steps n j c

  pub record Ready (chain : List ℕ) (from left : ℕ) : Type 0 where
    pub room : (left < 32) × (left < length chain)
    pub job : from < 32
    pub down : Down left from

  -- the job and those after it are written from the front, as job numbers from 1; what lies beyond keeps its value
  pub record Built (before after : List ℕ) (from left : ℕ) : Type 0 where
    pub chain : List ℕ
    pub steps : Steps left from chain
    pub jobs : after ≡ map suc (from ∷ chain) ++ drop (suc left) before
