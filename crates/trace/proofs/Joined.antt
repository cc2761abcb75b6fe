-- A run that goes on where another has come to is one run. Assumes nothing.
use Prim.Native.Nat.{ℕ, zero, suc, ◌+◌, ◌≤◌, ◌<◌}
use mathlib.Core.Path.{◌≡◌, refl, sym, ap, ◌∙◌}
use mathlib.Core.Bool.{true, false}
use mathlib.Core.List.{List}
use mathlib.Core.Logic.{⊎_elim}
use native.Mathlib.Nat.{le_refl, le_trans, eq-or-lt_of_le, le_of_suc-le-suc}
use native.Mathlib.Omega.{arith}
use borrow.Author.Tests.{ltb-true, ltb-false}
use lib.Dec.{ltb}
use Rattle.bits.proofs.Tests.{either}
use Rattle.rules.specs.declared.config.Config.{Config}
use Rattle.rules.specs.declared.frame.Frame.{Frame}
use Rattle.rules.specs.Step.{step_row, step_word}
use Rattle.trace.specs.declared.stretch.Stretch.{Stretch}
use Rattle.trace.specs.declared.stretch.Reached.{Reached}
use Rattle.trace.specs.Traces.{frame_at}
use Rattle.trace.specs.Runs.{word_at}
use Rattle.trace.specs.Stretches.{kept_from, stretch_word, stretch_row, Runnable, Running, Ran}
use Rattle.trace.proofs.Runs.{run_enters, run-steps, same-words}
use Rattle.trace.proofs.Written.{written_on}
use Rattle.trace.proofs.Running.{kept-enters, kept-steps}

-- the rest of a stretch from where a run has come to
abbrev pub rest_from : Stretch → Reached → Stretch
rest_from s r = record { from = s.from; at = r.at; to = s.to; stops = s.stops; word = r.word; kept = r.kept }

module _ {c : Config} {trace rows₀ words₀ rows words : List ℕ} {s : Stretch} {r : Reached} (come : Running c trace rows₀ words₀ s rows words r) where
  -- what the rest may go by
  pub rest-runnable : Runnable c trace rows₀ words₀ s → Runnable c trace rows words (rest_from s r)
  rest-runnable m = record {
    good = m.good;
    possible_word = come.possible_word;
    low = come.high;
    rows_hold = omega (arith, m.rows_hold, come.rows_are.same_length);
    words_hold = omega (arith, m.words_hold, come.words_are.same_length);
    in_trace = m.in_trace;
    short = m.short;
  }

  word_on : (k : ℕ) → r.at ≤ k → stretch_word c trace (rest_from s r) k ≡ stretch_word c trace s k
  unfolding stretch_word
  word_on k h =
      let frame : ℕ → Frame = λ j. frame_at trace (s.from + j) in
      same-words (step_word c) frame frame (word_at (step_word c) frame r.at r.word) (word_at (step_word c) frame s.at s.word) r.at k
      (run-steps (step_word c) frame r.at r.word) (λ j l. run-steps (step_word c) frame s.at s.word j (le_trans come.low l)) (λ j _ _. refl)
      (run_enters (step_word c) frame r.at r.word r.at (le_refl r.at) ∙ come.word_is) k h (le_refl k)

  row_on : (k : ℕ) → r.at ≤ k → stretch_row c trace (rest_from s r) k ≡ stretch_row c trace s k
  unfolding stretch_row
  row_on k h = ap (λ (w : ℕ). step_row c w (frame_at trace (s.from + k))) (word_on k h)

  kept_on : (k : ℕ) → r.at ≤ k → kept_from words r.at r.kept k ≡ kept_from words₀ s.at s.kept k
  kept_on k h = ⊎_elim here (later k) (eq-or-lt_of_le h)
    where
      here : r.at ≡ k → kept_from words r.at r.kept k ≡ kept_from words₀ s.at s.kept k
      here e = rw (← e) (kept-enters words r.at r.kept r.at (le_refl r.at) ∙ come.kept_is)

      later : (j : ℕ) → r.at < j → kept_from words r.at r.kept j ≡ kept_from words₀ s.at s.kept j
      later zero l = absurd (omega arith)
      later (suc j) l =
          let b = le_of_suc-le-suc l in
          kept-steps words r.at r.kept j b ∙ come.words_are.beyond j b ∙ sym (kept-steps words₀ s.at s.kept j (le_trans come.low b))

  pub joined : {rows' words' : List ℕ} {r' : Reached} → Ran c trace rows words (rest_from s r) rows' words' r' → Ran c trace rows₀ words₀ s rows' words' r'
  joined {rows'} {words'} {r'} ran = record {
    come = record {
      low = le_trans come.low ran.come.low;
      high = ran.come.high;
      word_is = ran.come.word_is ∙ word_on r'.at ran.come.low;
      possible_word = ran.come.possible_word;
      kept_is = ran.come.kept_is ∙ kept_on r'.at ran.come.low;
      rows_are = written_on s.at r.at r'.at rows₀ rows rows' come.low ran.come.low row_on come.rows_are ran.come.rows_are;
      words_are =
          written_on s.at r.at r'.at words₀ words words' come.low ran.come.low (λ k h. word_on (suc k) (omega arith)) come.words_are
          ran.come.words_are;
      going_on = λ on k low h e.
          ⊎_elim (λ (p : ltb k r.at ≡ true). come.going_on on k low (ltb-true k r.at p) e)
          (λ (p : ltb k r.at ≡ false).
          let b = ltb-false k r.at p in ran.come.going_on on k b h (word_on k b ∙ e ∙ sym (kept_on k b)))
          (either (ltb k r.at));
    };
    stopped = ran.stopped;
  }
