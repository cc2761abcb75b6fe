-- A run that enters its stretch with the rules' word has the rules' rows and words. Assumes nothing.
use Prim.Native.Nat.{ℕ, ◌+◌, ◌≤◌, zero-le}
use mathlib.Core.Path.{◌≡◌, refl, sym, ap, ◌∙◌}
use mathlib.Core.List.{List}
use native.Mathlib.Nat.{add-suc, le_refl}
use Rattle.rules.specs.declared.config.Config.{Config}
use Rattle.rules.specs.Config.{Good}
use Rattle.rules.specs.Frame.{Trace}
use Rattle.rules.specs.Rules.{row, word_before}
use Rattle.rules.specs.Step.{step_row, step_word}
use Rattle.rules.proofs.Claims.{step-is-rules}
use Rattle.trace.specs.declared.stretch.Stretch.{Stretch}
use Rattle.trace.specs.Traces.{frame_at}
use Rattle.trace.specs.Runs.{word_at}
use Rattle.trace.specs.Stretches.{stretch_word, stretch_row}
use Rattle.trace.proofs.Runs.{run_enters, run-steps, Follows, same-words}

-- the words of the rules are a run, from any cycle on
pub rules-follow : (c : Config) → Good c → (tr : Trace) (from : ℕ) → Follows (step_word c) (λ j. tr (from + j)) 0 (λ k. word_before c tr (from + k))
unfolding word_before
rules-follow c good tr from k _ = ap (word_before c tr) (add-suc from k) ∙ (step-is-rules c good tr (from + k)).word_is

module _ (c : Config) (good : Good c) (trace : List ℕ) (s : Stretch) (enters : s.word ≡ word_before c (frame_at trace) (s.from + s.at)) where
  pub stretch-words : (k : ℕ) → s.at ≤ k → stretch_word c trace s k ≡ word_before c (frame_at trace) (s.from + k)
  unfolding stretch_word
  stretch-words k h =
      same-words (step_word c) (λ j. frame_at trace (s.from + j)) (λ j. frame_at trace (s.from + j))
      (word_at (step_word c) (λ j. frame_at trace (s.from + j)) s.at s.word) (λ j. word_before c (frame_at trace) (s.from + j)) s.at k
      (run-steps (step_word c) (λ j. frame_at trace (s.from + j)) s.at s.word) (λ j _. rules-follow c good (frame_at trace) s.from j zero-le)
      (λ j _ _. refl)
      (run_enters (step_word c) (λ j. frame_at trace (s.from + j)) s.at s.word s.at (le_refl s.at) ∙ enters) k h (le_refl k)

  pub stretch-rows : (k : ℕ) → s.at ≤ k → stretch_row c trace s k ≡ row c (frame_at trace) (s.from + k)
  unfolding stretch_row
  stretch-rows k h =
      ap (λ (w : ℕ). step_row c w (frame_at trace (s.from + k))) (stretch-words k h) ∙ sym (step-is-rules c good (frame_at trace) (s.from + k)).row_is
