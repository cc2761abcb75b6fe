-- The refusals of a recheck, from document 01, "Refusal numbers", and document 02, §6. Assumes nothing.
use Rattle.std.specs.Prelude.{ℕ, ◌<◌, ◌≡◌, ◌&&◌, false, cond, List, T, eqb, leb, length, get_or}
use Rattle.rules.specs.declared.config.Config.{Config}
use Rattle.rules.specs.Config.{config_refusal}
use Rattle.rules.specs.Possible.{possible}
use Rattle.trace.specs.Traces.{frames, trace_fits}
use Rattle.lengths.specs.Lengths.{record_fits}
use Rattle.kept_words.specs.Spoiled.{all_possible}

-- refusals 1 to 7, in that order: "6: a above b, or b above N", and "refusal 7 when any kept word, not only word a−1, is impossible for the configuration"
unfoldable pub recheck_refusal : Config → List ℕ → List ℕ → List ℕ → ℕ → ℕ → ℕ
recheck_refusal c trace rows words a b =
    cond (eqb (config_refusal c) 0)
    (cond (trace_fits trace)
    (cond (record_fits trace rows words) (cond (leb a b && leb b (frames trace)) (cond (all_possible c words) 0 7) 6) 5)
    4)
    (config_refusal c)

-- "the lowest such cycle"
pub record LowestImpossible (c : Config) (words : List ℕ) (cycle : ℕ) : Type 0 where
  pub in_record : cycle < length words
  pub impossible : possible c (get_or words cycle 0) ≡ false
  pub lower_possible : (t : ℕ) → t < cycle → T (possible c (get_or words t 0))

-- "and name the lowest such cycle. Otherwise that number is 0."
pub record Named (c : Config) (words : List ℕ) (refusal cycle : ℕ) : Type 0 where
  pub spoiled : refusal ≡ 7 → LowestImpossible c words cycle
  pub otherwise : (refusal ≡ 7 → ⊥) → cycle ≡ 0

-- the two numbers of a refusal
pub record Refused (c : Config) (trace rows words : List ℕ) (a b refusal cycle : ℕ) : Type 0 where
  pub refusal_is : refusal ≡ recheck_refusal c trace rows words a b
  pub named : Named c words refusal cycle
