-- The best path between the ends of a danger is the chain shown, so its pairs are those shown.
use mathlib.Core.Path.{◌≡◌, refl, sym, ap, ap₂, ◌∙◌}
use mathlib.Core.List.{List, ◌∷◌, ◌++◌, map}
use Prim.Native.Nat.{ℕ, zero, suc, ◌*◌, ◌<◌, ◌≤◌}
use native.Mathlib.Omega.{arith}
use Rattle.std.specs.Prelude.{Option, None, Some, IsSome}
use lib.ListN.{length, drop, take, length-append, length-map}
use lib.Seq.{take-append_seam}
use Rattle.theory.specs.Guards.{Paper}
use Rattle.theory.specs.Form1.{form1}
use Rattle.theory.proofs.KnownLaws.{t1_known, t2_known, tm_known, t2_apart, tm_apart}
use Rattle.theory.proofs.ShownLaws.{one_chain}
use Rattle.theory.proofs.PairLaws.{shown}
use Rattle.chain.specs.Paths.{Both, Written, Shows}
use Rattle.conflicts.specs.Sets.{Has}
use Rattle.splits.specs.Splits.{shut?, ShutBy}
use Rattle.splits.proofs.JoinedLaws.{edges_back, path_shown, chain_is_path}
use Rattle.walk.specs.ShownIn.{DangerIn, ShownIn, ToPair, pair_row}

module _ {kind object clash : List ℕ} {level t1 b1 t2 tm : ℕ} (d : DangerIn kind object clash level t1 b1 t2 tm) where
  first_in : t2 < length d.js
  first_in = t2_known form1 (Paper form1) d.js d.danger

  last_in : tm < length d.js
  last_in = tm_known form1 (Paper form1) d.js d.danger

  first_apart : ¬ (t1 ≡ t2)
  first_apart = t2_apart form1 (Paper form1) d.js d.danger

  last_apart : ¬ (t1 ≡ tm)
  last_apart = tm_apart form1 (Paper form1) d.js d.danger

  pub split_small : t1 < 32
  split_small = omega (arith, d.laid.few, t1_known form1 (Paper form1) d.js d.danger)

  pub askable : (t2 < 32) × (tm < 32) × Both clash
  askable = (omega (arith, d.laid.few, first_in), omega (arith, d.laid.few, last_in), edges_back form1 d.js d.sets)

  module _ (shut : ℕ) (by : ShutBy clash t1 shut) (before after : List ℕ) where
    closed : Has shut (shut? form1 d.js t1)
    closed = by d.js kind d.writers d.ww d.rw d.wr d.sets

    -- the jobs stand at the front of the array
    front_long : (links : ℕ) (v : Written clash shut t2 tm before after links) → length (map suc (t2 ∷ v.chain)) ≡ suc links
    front_long links v = simp length-map (ap suc v.long)

    front : (links : ℕ) (v : Written clash shut t2 tm before after links) → take (suc links) after ≡ map suc (t2 ∷ v.chain)
    front links v =
        ap₂ take (sym (front_long links v)) v.jobs ∙ take-append_seam (map suc (t2 ∷ v.chain)) (drop (suc links) before)

    to_pair_lem : (links : ℕ) → Written clash shut t2 tm before after links → ToPair kind object (take (suc links) after) level t1 b1 t2
    to_pair_lem links v =
        let jobs = path_shown form1 d.js d.sets t1 shut closed t2 tm first_in first_apart last_in last_apart v.chain v.best in
        let all = shown form1 (Paper form1) d.js d.danger in
        record {
          js = d.js;
          lv = d.lv;
          laid = d.laid;
          same_level = d.same_level;
          tm = tm;
          danger = d.danger;
          rest = v.chain;
          ps = all.1;
          shown = record { jobs = jobs; pairs = rw (one_chain form1 d.js t1 t2 tm all.0 v.chain all.2.jobs jobs) at all.2.pairs };
          jobs = front links v;
        }

    -- a danger has a chain, so that none cannot be the answer
    none : Shows clash shut t2 tm before after None → ⊥
    none n = n.0 d.danger.rest (chain_is_path form1 d.js d.sets t1 shut closed t2 tm first_in first_apart last_in last_apart d.danger.rest d.danger.chain)

    pub chain_there : (found : Option ℕ) → Shows clash shut t2 tm before after found → IsSome found
    chain_there None v = absurd (none v)
    chain_there (Some n) v = refl

    pub fits : (n : ℕ) → Shows clash shut t2 tm before after (Some n) → n ≤ length after
    fits zero v = absurd v
    fits (suc links) v = rw v.jobs (simp length-append (omega (arith, front_long links v)))

    pub pairs_askable : (n : ℕ) → Shows clash shut t2 tm before after (Some n) → ToPair kind object (take n after) level t1 b1 t2
    pairs_askable zero v = absurd v
    pairs_askable (suc links) v = to_pair_lem links v

    pub shown_in : (n : ℕ) → Shows clash shut t2 tm before after (Some n) → (pairs₀ pairs : List ℕ)
        → ((w : ToPair kind object (take n after) level t1 b1 t2) → pairs ≡ pair_row w.ps ++ drop (2 * length w.ps) pairs₀) → ShownIn d.js d.lv t1 b1 t2 tm before after pairs₀ pairs n
    unfolding to_pair_lem
    shown_in zero v pairs₀ pairs written = absurd v
    shown_in (suc links) v pairs₀ pairs written =
        let w = to_pair_lem links v in
        record { rest = v.chain; ps = w.ps; shown = w.shown; count = ap suc (sym v.long); jobs = v.jobs; operations = written w }
