-- The run of a recheck, from document 01, "What the viewer calls". Assumes nothing.
use Rattle.std.specs.Prelude.{ℕ, suc, ◌+◌, ◌≤◌, ◌<◌, ◌≡◌, List, T, length, get_or}
use Rattle.rules.specs.declared.config.Config.{Config}
use Rattle.rules.specs.Config.{Good}
use Rattle.rules.specs.Rules.{marks}
use Rattle.rules.specs.Step.{step_row, step_word}
use Rattle.rules.specs.Possible.{possible}
use Rattle.trace.specs.Traces.{frames, frame_at}
use Rattle.trace.specs.Runs.{word_at, kept_at, Ends, Written}
use Rattle.halves.specs.Rows.{marks_in}

module _ (c : Config) (trace words : List ℕ) (a : ℕ) where
  -- the recheck's own word before cycle t: it "goes on from kept word a−1 (0 when a is 0), one step for each cycle of the lent trace from a on"
  unfoldable pub own_word : ℕ → ℕ
  own_word t = word_at (step_word c) (frame_at trace) a (kept_at words a) t

  -- the row that it gives cycle t
  unfoldable pub own_row : ℕ → ℕ
  own_row t = step_row c (own_word t) (frame_at trace t)

-- What the run of a recheck may go by: it was not refused, and `word` is the kept word before a.
pub record Resumable (c : Config) (trace rows words : List ℕ) (a b word : ℕ) : Type 0 where
  pub good : Good c
  pub short : frames trace ≤ 65536
  pub rows_length : length rows ≡ frames trace
  pub words_length : length words ≡ frames trace
  pub low : a ≤ b
  pub high : b ≤ frames trace
  pub word_is : word ≡ kept_at words a
  pub possible_word : T (possible c word)

-- What the run leaves: e and the entries from a to e−1, and 65,536 more than the change of each mark there.
pub record Resumed (c : Config) (trace rows words : List ℕ) (a b : ℕ) (rows' words' : List ℕ) (e : ℕ) (counts : List ℕ) : Type 0 where
  pub ends : Ends (own_word c trace words a) (kept_at words) b (frames trace) e
  pub rows_are : Written (own_row c trace words a) a e rows rows'
  pub words_are : Written (λ t. own_word c trace words a (suc t)) a e words words'
  pub counts_are : (i : ℕ) → i < marks → get_or counts i 0 + marks_in rows i a e ≡ 65536 + marks_in rows' i a e
