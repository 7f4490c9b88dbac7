-- The statement of `find` allows one outcome (document 01, "How firmly each call is tied down").
-- Assumes nothing.
use Rattle.std.specs.Prelude.{ℕ, ◌*◌, ◌^◌, ◌<◌, ◌≡◌, Bool, List, length, get_or}
use Rattle.std.proofs.Common.{sym, ◌∙◌, arith, ext_get_or}
use Rattle.std.proofs.Math.Decide.{dec_lt}
use Rattle.jobset.specs.JobsetLaws.{same_bits}
use Rattle.theory.specs.Danger.{Jobs}
use Rattle.theory.specs.Form1.{form1}
use Rattle.conflicts.specs.Sets.{Has}
use Rattle.conflicts.specs.SetsFound.{SetsFound}

-- every entry is a number of 32 bits
abbrev pub Small : List ℕ → Type 0
Small xs = (i : ℕ) → get_or xs i 0 < 2 ^ 32

has_once : (m n : ℕ) (p : ℕ → Bool) → m < 2 ^ 32 → n < 2 ^ 32 → Has m p → Has n p → m ≡ n
has_once m n p h l a b = same_bits 32 m n h l (λ k _. a k ∙ sym (b k))

sets_once :
    (xs ys : List ℕ) (p : ℕ → ℕ → Bool) → Small xs → Small ys → length xs ≡ 32 → length ys ≡ 32
    → ((j : ℕ) → j < 32 → Has (get_or xs j 0) (p j)) → ((j : ℕ) → j < 32 → Has (get_or ys j 0) (p j)) → xs ≡ ys
sets_once xs ys p s t h l a b =
    ext_get_or 0 xs ys (h ∙ sym l) (λ j k. let q : j < 32 = omega arith in has_once (get_or xs j 0) (get_or ys j 0) (p j) (s j) (t j) (a j q) (b j q))

module _ (js : Jobs form1) (kind object writers ww_of rw_of wr_of clash_of writers' ww_of' rw_of' wr_of' clash_of' : List ℕ)
    (a : SetsFound js kind object writers ww_of rw_of wr_of clash_of) (b : SetsFound js kind object writers' ww_of' rw_of' wr_of' clash_of') where
  pub writers_settled : Small writers → Small writers' → writers ≡ writers'
  writers_settled s t = ext_get_or 0 writers writers' (a.writers_long ∙ sym b.writers_long) (λ i _. cases i (dec_lt i (16 * length js)))
    where
      cases : (i : ℕ) → Dec (i < 16 * length js) → get_or writers i 0 ≡ get_or writers' i 0
      cases i (yes h) = has_once (get_or writers i 0) (get_or writers' i 0) _ (s i) (t i) (a.entry i h) (b.entry i h)
      cases i (no h) = a.behind i (omega arith) ∙ sym (b.behind i (omega arith))

  pub ww_settled : Small ww_of → Small ww_of' → ww_of ≡ ww_of'
  ww_settled s t = sets_once ww_of ww_of' _ s t a.ww_long b.ww_long a.sets.job_ww b.sets.job_ww

  pub rw_settled : Small rw_of → Small rw_of' → rw_of ≡ rw_of'
  rw_settled s t = sets_once rw_of rw_of' _ s t a.rw_long b.rw_long a.sets.job_rw b.sets.job_rw

  pub wr_settled : Small wr_of → Small wr_of' → wr_of ≡ wr_of'
  wr_settled s t = sets_once wr_of wr_of' _ s t a.wr_long b.wr_long a.sets.job_wr b.sets.job_wr

  pub clash_settled : Small clash_of → Small clash_of' → clash_of ≡ clash_of'
  clash_settled s t = sets_once clash_of clash_of' _ s t a.clash_long b.clash_long a.sets.job_clash b.sets.job_clash
