-- Records with a word that is impossible for the configuration, from document 02, §6. Assumes nothing.
use Rattle.std.specs.Prelude.{◌≡◌, ℕ, ◌<◌, ◌≤◌, Bool, false, T, List, length, slice_index}
use Rattle.bits.specs.Bits.{every}
use Rattle.rules.specs.declared.config.Config.{Config}
use Rattle.rules.specs.Possible.{possible}

-- whether no kept word is impossible: "when any kept word, not only word a−1, is impossible for the configuration"
unfoldable pub all_possible : Config → List ℕ → Bool
all_possible c words = every (length words) (λ t. possible c (slice_index words t))

-- "the lowest such cycle" from `from` on and before `to`: what a search finds there, or `to` where there is none
pub record FirstImpossible (c : Config) (words : List ℕ) (from to t : ℕ) : Type 0 where
  pub low : from ≤ t
  pub high : t ≤ to
  pub impossible : t < to → possible c (slice_index words t) ≡ false
  pub lower_possible : (s : ℕ) → from ≤ s → s < t → T (possible c (slice_index words s))
