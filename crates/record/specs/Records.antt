-- A trace's true record, and the full check, from document 01, "The words of demand 3" and "What the viewer calls". Assumes nothing.
use Rattle.std.specs.Prelude.{ℕ, ◌<◌, ◌≡◌, List, length, get_or}
use Rattle.rules.specs.declared.config.Config.{Config}
use Rattle.rules.specs.Rules.{row, word}
use Rattle.trace.specs.Traces.{frames, frame_at}
use Rattle.lengths.specs.Lengths.{check_refusal}

-- "A trace's true record under a configuration is the rows and words that the rules above give"
pub record TrueRecord (c : Config) (trace rows words : List ℕ) : Type 0 where
  pub rows_length : length rows ≡ frames trace
  pub words_length : length words ≡ frames trace
  pub rows_are : (t : ℕ) → t < frames trace → get_or rows t 0 ≡ row c (frame_at trace) t
  pub words_are : (t : ℕ) → t < frames trace → get_or words t 0 ≡ word c (frame_at trace) t

-- The full check: not refused, it leaves the trace's true record; refused, both buffers are as they were.
pub record CheckAnswer (c : Config) (trace rows words rows' words' : List ℕ) (refusal : ℕ) : Type 0 where
  pub refusal_is : refusal ≡ check_refusal c trace rows words
  pub done : refusal ≡ 0 → TrueRecord c trace rows' words'
  pub rows_kept : (refusal ≡ 0 → ⊥) → rows' ≡ rows
  pub words_kept : (refusal ≡ 0 → ⊥) → words' ≡ words
