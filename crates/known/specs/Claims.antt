-- What document 02, §8, says of a trace without unknown bits: it has the rows and words that it had before. Proved of every such trace by `known-as-before` of
-- `proofs/Known.antt`. Assumes nothing.
use Rattle.std.specs.Prelude.{ℕ, ◌<◌, ◌≡◌}
use Rattle.rules.specs.declared.config.Config.{Config}
use Rattle.rules.specs.Frame.{Trace, unknown}
use Rattle.rules.specs.Rules.{row, word}
use Rattle.known.specs.Known as Before

-- no wire of any cycle is unknown: the four unknown words are 0
abbrev pub Known : Trace → Type 0
Known tr = (t i : ℕ) → i < 4 → unknown (tr t) i ≡ 0

-- every cycle has the row and the open word that it had before
pub record AsBefore (c : Config) (tr : Trace) : Type 0 where
  pub rows : (t : ℕ) → row c tr t ≡ Before.row c tr t
  pub words : (t : ℕ) → word c tr t ≡ Before.word c tr t
