-- The loop over the checkers that steps them: words and rows after k of them. Assumes nothing.
use Prim.Native.Nat.{ℕ, zero, suc, ◌≤◌, ◌<◌}
use mathlib.Core.Path.{◌≡◌, refl, ap, subst⁻¹, ◌∙◌}
use mathlib.Core.List.{List}
use native.Mathlib.Nat.{le_refl, le-div_iff_mul-le}
use native.Mathlib.Omega.{arith}
use lib.Dec.{T}
use lib.ListN.{length, get_or, length-set}
use Rattle.rules.specs.Frame.{frame_words}
use Rattle.rules.specs.declared.config.Config.{Config}
use Rattle.rules.specs.Config.{Good}
use Rattle.rules.specs.Possible.{possible}
use Rattle.rules.specs.Step.{step_row, step_word}
use Rattle.open_words.proofs.Refusals.{not_refused}
use Rattle.trace.specs.Traces.{frames, frame_at}
use Rattle.trace.specs.Runs.{Written}
use Rattle.trace.proofs.Written.{written_none, written-more}
use Rattle.one_checker.specs.One.{stepped_words, stepped_rows}
use Rattle.bench.specs.Bench.{checker_at, Stepped, Steppable}

module _ (table : List Config) (fs words rows : List ℕ) where
  -- the words and the rows after the first k checkers
  unfoldable pub words_to : ℕ → List ℕ
  words_to zero = words
  words_to (suc k) = stepped_words (checker_at table k) fs (words_to k) k

  unfoldable pub rows_to : ℕ → List ℕ
  rows_to zero = rows
  rows_to (suc k) = stepped_rows (checker_at table k) fs (words_to k) (rows_to k) k

  pub words_length : (k : ℕ) → length (words_to k) ≡ length words
  unfolding words_to
  words_length zero = refl
  words_length (suc k) = length-set (words_to k) k _ ∙ words_length k

  pub rows_length : (k : ℕ) → length (rows_to k) ≡ length rows
  unfolding rows_to
  rows_length zero = refl
  rows_length (suc k) = length-set (rows_to k) k _ ∙ rows_length k

  module _ (ok : Steppable table fs words rows) where
    -- the word and the row of checker j's step
    abbrev word_of : ℕ → ℕ
    word_of j = step_word (checker_at table j) (get_or words j 0) (frame_at fs j)

    abbrev row_of : ℕ → ℕ
    row_of j = step_row (checker_at table j) (get_or words j 0) (frame_at fs j)

    -- after k checkers the entries below k are those of their steps, and the others as they were
    words-written : (k : ℕ) → k ≤ length table → Written word_of 0 k words (words_to k)
    unfolding words_to
    words-written zero h = written_none word_of 0 words
    words-written (suc k) h =
        let before = words-written k (omega arith) in
        written-more word_of 0 k words (words_to k) _ (omega arith) (omega (arith, ok.words_length)) (ap (λ (w : ℕ). step_word (checker_at table k) w (frame_at fs k)) (before.beyond k (le_refl k))) before

    rows_written : (k : ℕ) → k ≤ length table → Written row_of 0 k rows (rows_to k)
    unfolding rows_to
    rows_written zero h = written_none row_of 0 rows
    rows_written (suc k) h =
        written-more row_of 0 k rows (rows_to k) _ (omega arith) (omega (arith, ok.rows_length))
        (ap (λ (w : ℕ). step_row (checker_at table k) w (frame_at fs k)) ((words-written k (omega arith)).beyond k (le_refl k))) (rows_written k (omega arith))

    has-frame : (k : ℕ) → k < length table → k < frames fs
    unfolding frames
    has-frame k h = (le-div_iff_mul-le {k = frame_words} {x = suc k} {y = length fs} (omega arith)).1 (omega (arith, ok.frames_length))

    -- what the step of checker k asks
    pub step-asks : (k : ℕ) → k < length table
        → (Good (checker_at table k)) × (T (possible (checker_at table k) (get_or (words_to k) k 0))) × (k < frames fs) × (k < length (words_to k)) × (k < length (rows_to k))
    step-asks k h =
        let accepted = not_refused (checker_at table k) (get_or words k 0) (ok.all_are_good k h) in
        let same = words-written k (omega arith) in (
          accepted.good,
          subst⁻¹ (λ (w : ℕ). T (possible (checker_at table k) w)) (same.beyond k (le_refl k)) accepted.possible_word,
          has-frame k h,
          omega (arith, words_length k, ok.words_length),
          omega (arith, rows_length k, ok.rows_length),
        )

    pub stepped-all : Stepped table fs words rows (words_to (length table)) (rows_to (length table))
    stepped-all =
        let w = words-written (length table) (le_refl (length table)) in
        let r = rows_written (length table) (le_refl (length table)) in
        record { words_length = w.same_length; rows_length = r.same_length; words_are = λ k h. w.within k (omega arith) h; rows_are = λ k h. r.within k (omega arith) h }
