-- The samples of an edit in a lent slice: their refusal, from document 01, "Refusal numbers", and their exchange with those of the trace. Assumes nothing.
use Rattle.std.specs.Prelude.{ℕ, ◌+◌, ◌-◌, ◌*◌, ◌&&◌, cond, List, eqb, leb, length, get_or}
use Rattle.rules.specs.declared.config.Config.{Config}
use Rattle.rules.specs.Frame.{frame_words}
use Rattle.trace.specs.Traces.{frames}
use Rattle.trace.specs.Runs.{Written}
use Rattle.lengths.specs.Lengths.{check_refusal}

-- Refusals 1 to 6, in that order. The samples are those of cycles a to b−1, and none where a is above b: a slice of another length "has not the length that is due",
-- refusal 5.
unfoldable pub edit_refusal : Config → List ℕ → List ℕ → List ℕ → ℕ → ℕ → List ℕ → ℕ
edit_refusal c trace rows words a b samples =
    let check = check_refusal c trace rows words in
    cond (eqb check 0) (cond (eqb (length samples) (frame_words * (b - a))) (cond (leb a b && leb b (frames trace)) 0 6) 5) check

-- The words of a trace from the word `first` on and the samples have changed places.
pub record Swapped (trace samples : List ℕ) (first : ℕ) (trace' samples' : List ℕ) : Type 0 where
  pub trace_is : Written (λ j. get_or samples (j - first) 0) first (first + length samples) trace trace'
  pub samples_are : Written (λ i. get_or trace (first + i) 0) 0 (length samples) samples samples'
