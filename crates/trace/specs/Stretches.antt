-- A stretch of a trace, run cycle by cycle into lent rows and words: entry k of both is cycle from + k. The run enters entry `at` with the word before it
-- and fills the entries up to `to`. One that `stops` ends where its word is the one that was kept before that entry, so that a recheck can end there.
-- Nothing here names a kind. Assumes nothing.
use Rattle.std.specs.Prelude.{ℕ, zero, suc, ◌+◌, ◌≤◌, ◌<◌, ◌≡◌, Bool, true, cond, List, T, ltb, length, get_or}
use Rattle.rules.specs.declared.config.Config.{Config}
use Rattle.rules.specs.Config.{Good}
use Rattle.rules.specs.Rules.{stopped_word}
use Rattle.rules.specs.Step.{step_row, step_word}
use Rattle.rules.specs.Possible.{possible}
use Rattle.trace.specs.declared.stretch.Stretch.{Stretch}
use Rattle.trace.specs.declared.stretch.Reached.{Reached}
use Rattle.trace.specs.Traces.{frames, frame_at}
use Rattle.trace.specs.Runs.{word_at, Written}

-- the kept word before entry k, where `kept` is the one before entry `at`
unfoldable pub kept_from : List ℕ → ℕ → ℕ → ℕ → ℕ
kept_from words at kept zero = kept
kept_from words at kept (suc k) = cond (ltb k at) kept (get_or words k 0)

module _ (c : Config) (trace : List ℕ) (s : Stretch) where
  -- the run's own word before entry k, and the row that it gives that entry
  unfoldable pub stretch_word : ℕ → ℕ
  stretch_word k = word_at (step_word c) (λ j. frame_at trace (s.from + j)) s.at s.word k

  unfoldable pub stretch_row : ℕ → ℕ
  stretch_row k = step_row c (stretch_word k) (frame_at trace (s.from + k))

-- what a run may go by
pub record Runnable (c : Config) (trace rows words : List ℕ) (s : Stretch) : Type 0 where
  pub good : Good c
  pub possible_word : T (possible c s.word)
  pub low : s.at ≤ s.to
  pub rows_hold : s.to ≤ length rows
  pub words_hold : s.to ≤ length words
  pub in_trace : s.from + s.to ≤ frames trace
  pub short : frames trace ≤ 65536

-- The run has come to an entry: it has stored the rows and words of the entries before it and no others, holds its own word and the kept one before it, and
-- has met no entry where it had to stop.
pub record Running (c : Config) (trace rows words : List ℕ) (s : Stretch) (rows' words' : List ℕ) (r : Reached) : Type 0 where
  pub low : s.at ≤ r.at
  pub high : r.at ≤ s.to
  pub word_is : r.word ≡ stretch_word c trace s r.at
  pub possible_word : T (possible c r.word)
  pub kept_is : r.kept ≡ kept_from words s.at s.kept r.at
  pub rows_are : Written (stretch_row c trace s) s.at r.at rows rows'
  pub words_are : Written (λ k. stretch_word c trace s (suc k)) s.at r.at words words'
  pub going_on : s.stops ≡ true → (k : ℕ) → s.at ≤ k → k < r.at → stretch_word c trace s k ≡ kept_from words s.at s.kept k → ⊥

-- The run is over: it has come to the end of the stretch, or to the first entry where it had to stop.
pub record Ran (c : Config) (trace rows words : List ℕ) (s : Stretch) (rows' words' : List ℕ) (r : Reached) : Type 0 where
  pub come : Running c trace rows words s rows' words' r
  pub stopped : r.at < s.to → (s.stops ≡ true) × (r.word ≡ r.kept)

-- The run of a fatal checker is over, or it has just failed: then its word is 2^63.
pub record Watched (c : Config) (trace rows words : List ℕ) (s : Stretch) (rows' words' : List ℕ) (r : Reached) : Type 0 where
  pub come : Running c trace rows words s rows' words' r
  pub ended : (r.word ≡ stopped_word → ⊥) → r.at < s.to → (s.stops ≡ true) × (r.word ≡ r.kept)

-- A run that has failed, from entry `start` on, has come to an entry: it stores row 0 and word 2^63, whatever the frames are. `before` is the word kept before `start`.
pub record Staying (start to : ℕ) (stops : Bool) (before : ℕ) (rows words rows' words' : List ℕ) (at kept : ℕ) : Type 0 where
  pub low : start ≤ at
  pub high : at ≤ to
  pub kept_is : kept ≡ kept_from words start before at
  pub rows_are : Written (λ k. 0) start at rows rows'
  pub words_are : Written (λ k. stopped_word) start at words words'
  pub going_on : stops ≡ true → (k : ℕ) → start ≤ k → k < at → stopped_word ≡ kept_from words start before k → ⊥

-- It is over: at the end of the stretch, or at the first entry where it had to stop.
pub record Stayed (s : Stretch) (rows words rows' words' : List ℕ) (r : Reached) : Type 0 where
  pub come : Staying s.at s.to s.stops s.kept rows words rows' words' r.at r.kept
  pub word_is : r.word ≡ stopped_word
  pub ended : r.at < s.to → (s.stops ≡ true) × (r.kept ≡ stopped_word)
