-- What each run of a stretch asks for. Assumes nothing.
use Rattle.std.specs.Prelude.{ℕ, ◌≡◌, true, false, List}
use Rattle.rules.specs.declared.config.Config.{Config}
use Rattle.rules.specs.Config.{fatally}
use Rattle.rules.specs.Rules.{stopped_word}
use Rattle.trace.specs.declared.stretch.Stretch.{Stretch}
use Rattle.trace.specs.Stretches.{Runnable}

module _ (c : Config) (trace rows words : List ℕ) (s : Stretch) where
  -- one to its end
  abbrev pub Fills : Type 0
  Fills = Runnable c trace rows words s × (s.stops ≡ false)

  -- one up to a kept word
  abbrev pub Seeks : Type 0
  Seeks = Runnable c trace rows words s × (s.stops ≡ true)

  -- one of the checker made fatal, up to its first failure
  abbrev pub Watches : Type 0
  Watches = Runnable (fatally c) trace rows words s × (s.word ≡ stopped_word → ⊥)
