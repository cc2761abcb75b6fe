-- One checker of a bench, from document 01, "What the viewer calls". Assumes nothing.
use Rattle.std.specs.Prelude.{ℕ, List, get_or, set}
use Rattle.rules.specs.declared.config.Config.{Config}
use Rattle.rules.specs.Step.{step_row, step_word}
use Rattle.trace.specs.Traces.{frame_at}

-- the words and the rows with checker k stepped
abbrev pub stepped_words : Config → List ℕ → List ℕ → ℕ → List ℕ
stepped_words c frames words k = set words k (step_word c (get_or words k 0) (frame_at frames k))

abbrev pub stepped_rows : Config → List ℕ → List ℕ → List ℕ → ℕ → List ℕ
stepped_rows c frames words rows k = set rows k (step_row c (get_or words k 0) (frame_at frames k))
