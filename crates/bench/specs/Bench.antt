-- The bench step, from document 01, "What the viewer calls" and "Refusal numbers". Assumes nothing.
use Rattle.std.specs.Prelude.{ℕ, ◌+◌, ◌*◌, ◌/◌, ◌%◌, ◌<◌, ◌≡◌, List, length, get_or, Result, Ok, Err}
use Rattle.rules.specs.declared.config.Config.{Config}
use Rattle.rules.specs.Frame.{frame_words}
use Rattle.rules.specs.Refusals.{number_of, cycle_named}
use Rattle.rules.specs.Possible.{word_refusal}
use Rattle.rules.specs.Step.{step_row, step_word}
use Rattle.trace.specs.Traces.{frame_at}
use Rattle.bench_lengths.specs.Lengths.{lengths_refusal}
use Rattle.bench.specs.declared.table.BadChecker.{BadChecker}

-- what stands for a checker that the table has not: nothing is said of it
abbrev pub blank : Config
blank = record { kind = 0; n = 0; p = record { left = 0; right = 0 }; q = record { left = 0; right = 0 }; r = record { left = 0; right = 0 }; min = 0; value = 0; severity = 0 }

-- checker k of a table
abbrev pub checker_at : List Config → ℕ → Config
checker_at table k = get_or table k blank

-- ---- refusals

-- the refusal of checker k with its word: 0, or 1, 2, 3 or 7
abbrev pub refusal_at : List Config → List ℕ → ℕ → ℕ
refusal_at table words k = word_refusal (checker_at table k) (get_or words k 0)

-- "then checkers in order, and names the first bad one"
pub record FirstBad (table : List Config) (words : List ℕ) (refusal checker : ℕ) : Type 0 where
  pub in_table : checker < length table
  pub refused : refusal ≡ refusal_at table words checker
  pub bad : refusal ≡ 0 → ⊥
  pub first : (k : ℕ) → k < checker → refusal_at table words k ≡ 0

-- 256 times the refusal and the bad checker's number, and 0 where none is bad
abbrev pub bad_number : BadChecker → ℕ
bad_number bad = 256 * number_of bad.refusal + bad.checker

abbrev pub answer_of : {A : Type 0} → Result A BadChecker → ℕ
answer_of (Ok _) = 0
answer_of (Err bad) = bad_number bad

-- the cycle that an answer names: a bad checker of a bench has none
abbrev pub cycle_of_bad : {A : Type 0} → Result A BadChecker → ℕ
cycle_of_bad (Ok _) = 0
cycle_of_bad (Err bad) = cycle_named bad.refusal

-- An answer is 256 times the refusal and the bad checker's number, or 0.
pub record Tested (table : List Config) (words : List ℕ) (answer : ℕ) : Type 0 where
  pub all_are_good : answer ≡ 0 → (k : ℕ) → k < length table → refusal_at table words k ≡ 0
  pub first_bad : (answer ≡ 0 → ⊥) → FirstBad table words (answer / 256) (answer % 256)

-- ---- the step

-- "Every word and row becomes what that checker's one step gives."
pub record Stepped (table : List Config) (frames words rows words' rows' : List ℕ) : Type 0 where
  pub words_length : length words' ≡ length words
  pub rows_length : length rows' ≡ length rows
  pub words_are : (k : ℕ) → k < length table → get_or words' k 0 ≡ step_word (checker_at table k) (get_or words k 0) (frame_at frames k)
  pub rows_are : (k : ℕ) → k < length table → get_or rows' k 0 ≡ step_row (checker_at table k) (get_or words k 0) (frame_at frames k)

-- The bench step: refused for the lengths, with no checker named; for the first bad checker; or every checker is stepped. "A refusal writes nothing".
pub record BenchAnswer (table : List Config) (frames words rows words' rows' : List ℕ) (answer : ℕ) : Type 0 where
  pub lengths : (lengths_refusal (length table) (length frames) (length words) (length rows) ≡ 0 → ⊥)
      → answer ≡ 256 * lengths_refusal (length table) (length frames) (length words) (length rows)
  pub checkers : lengths_refusal (length table) (length frames) (length words) (length rows) ≡ 0 → Tested table words answer
  pub done : answer ≡ 0 → Stepped table frames words rows words' rows'
  pub words_kept : (answer ≡ 0 → ⊥) → words' ≡ words
  pub rows_kept : (answer ≡ 0 → ⊥) → rows' ≡ rows

-- what the loop over the checkers asks: the lengths fit, and no checker is bad
pub record Steppable (table : List Config) (frames words rows : List ℕ) : Type 0 where
  pub frames_length : length frames ≡ frame_words * length table
  pub words_length : length words ≡ length table
  pub rows_length : length rows ≡ length table
  pub all_are_good : (k : ℕ) → k < length table → refusal_at table words k ≡ 0
