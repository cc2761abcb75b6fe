-- The invariant of the loops that run a stretch. A run that has come to an entry, and does not stop there, comes to the next one by one step, which stores
-- one row and one word. Assumes nothing.
use Prim.Native.Nat.{ℕ, zero, suc, ◌+◌, ◌≤◌, ◌<◌}
use mathlib.Core.Path.{◌≡◌, refl, sym, ap, subst, subst⁻¹, ◌∙◌}
use mathlib.Core.Bool.{true, false}
use mathlib.Core.List.{List}
use mathlib.Core.Logic.{⊎_elim}
use native.Mathlib.Nat.{le_refl, le_step, eq-or-lt_of_le, le_of_suc-le-suc}
use native.Mathlib.Omega.{arith}
use borrow.Author.Tests.{lt-ltb, le-ltb}
use lib.Dec.{T}
use lib.ListN.{get_or, set}
use Rattle.bits.proofs.Tests.{of-true, of-false}
use Rattle.rules.specs.declared.config.Config.{Config}
use Rattle.rules.specs.declared.frame.Frame.{Frame}
use Rattle.rules.specs.Step.{step_row, step_word, Steps}
use Rattle.rules.specs.Possible.{possible}
use Rattle.rules.proofs.Reached.{step-possible}
use Rattle.trace.specs.declared.stretch.Stretch.{Stretch}
use Rattle.trace.specs.declared.stretch.Reached.{Reached}
use Rattle.trace.specs.Traces.{frames, frame_at}
use Rattle.trace.specs.Stretches.{kept_from, stretch_word, stretch_row, Runnable, Running, Ran}
use Rattle.trace.proofs.Runs.{run_enters, run-steps}
use Rattle.trace.proofs.Written.{written_none, written-more}

-- ---- the kept word

pub kept-enters : (words : List ℕ) (at kept k : ℕ) → k ≤ at → kept_from words at kept k ≡ kept
unfolding kept_from
kept-enters words at kept zero h = refl
kept-enters words at kept (suc k) h = rw (lt-ltb k at h)

pub kept-steps : (words : List ℕ) (at kept k : ℕ) → at ≤ k → kept_from words at kept (suc k) ≡ get_or words k 0
unfolding kept_from
kept-steps words at kept k h = rw (le-ltb k at h)

-- ---- one entry further

abbrev pub reached : ℕ → ℕ → ℕ → Reached
reached k word kept = record { at = k; word = word; kept = kept }

module _ {c : Config} {trace rows₀ words₀ : List ℕ} {s : Stretch} (r : Runnable c trace rows₀ words₀ s) where
  abbrev frame : ℕ → Frame
  frame k = frame_at trace (s.from + k)

  pub running_none : Running c trace rows₀ words₀ s rows₀ words₀ (reached s.at s.word s.kept)
  unfolding stretch_word
  running_none = record {
    low = le_refl s.at;
    high = r.low;
    word_is = sym (run_enters (step_word c) frame s.at s.word s.at (le_refl s.at));
    possible_word = r.possible_word;
    kept_is = sym (kept-enters words₀ s.at s.kept s.at (le_refl s.at));
    rows_are = written_none (stretch_row c trace s) s.at rows₀;
    words_are = written_none (λ k. stretch_word c trace s (suc k)) s.at words₀;
    going_on = λ u k low h. absurd (omega arith);
  }

  module _ {rows words : List ℕ} {k word kept : ℕ} (run : Running c trace rows₀ words₀ s rows words (reached k word kept)) (here : k < s.to) where
    -- the cycle is one of the trace
    pub in_trace : s.from + k < frames trace
    in_trace = omega (arith, r.in_trace)

    pub running_more : (s.stops ≡ true → word ≡ kept → ⊥) → {row next : ℕ} → Steps c word (frame k) row next
        → Running c trace rows₀ words₀ s (set rows k row) (set words k next) (reached (suc k) next (get_or words k 0))
    unfolding stretch_word stretch_row
    running_more differs {row} {next} step = record {
      low = le_step run.low;
      high = here;
      word_is = next_is;
      possible_word = subst⁻¹ (λ (x : ℕ). T (possible c x)) step.word_is (step-possible c r.good word (frame k) run.possible_word);
      kept_is = run.words_are.beyond k (le_refl k) ∙ sym (kept-steps words₀ s.at s.kept k run.low);
      rows_are =
          written-more (stretch_row c trace s) s.at k rows₀ rows row run.low (omega (arith, r.rows_hold))
          (step.row_is ∙ ap (λ (x : ℕ). step_row c x (frame k)) run.word_is) run.rows_are;
      words_are =
          written-more (λ j. stretch_word c trace s (suc j)) s.at k words₀ words next run.low (omega (arith, r.words_hold)) next_is run.words_are;
      going_on = λ on u low b. ⊎_elim (here-differs on u) (run.going_on on u low) (eq-or-lt_of_le (le_of_suc-le-suc b));
    }
      where
        next_is : next ≡ stretch_word c trace s (suc k)
        next_is =
            step.word_is ∙ ap (λ (x : ℕ). step_word c x (frame k)) run.word_is ∙ sym (run-steps (step_word c) frame s.at s.word k run.low)

        here-differs : s.stops ≡ true → (u : ℕ) → u ≡ k → stretch_word c trace s u ≡ kept_from words₀ s.at s.kept u → ⊥
        here-differs on u e q = differs on (run.word_is ∙ (rw e at q) ∙ sym run.kept_is)

-- ---- a run that does not stop: the kept word is not looked at on the way

module _ {c : Config} {trace rows₀ words₀ : List ℕ} {s : Stretch} (r : Runnable c trace rows₀ words₀ s) where
  abbrev pub Filling : List ℕ → List ℕ → ℕ → ℕ → Type 0
  Filling rows words k word = Running c trace rows₀ words₀ s rows words (reached k word (kept_from words₀ s.at s.kept k))

  pub filling-none : Filling rows₀ words₀ s.at s.word
  filling-none = rw (kept-enters words₀ s.at s.kept s.at (le_refl s.at)) (running_none r)

  pub filling-more : s.stops ≡ false → {rows words : List ℕ} {k word : ℕ} → Filling rows words k word → k < s.to → {row next : ℕ}
      → Steps c word (frame_at trace (s.from + k)) row next → Filling (set rows k row) (set words k next) (suc k) next
  filling-more off {rows} {words} {k} {word} run here {row} {next} step =
      let more = running_more r run here (λ on _. of-false off (of-true on)) step in
      subst (λ (x : ℕ). Running c trace rows₀ words₀ s (set rows k row) (set words k next) (reached (suc k) next x)) more.kept_is more

-- it comes to the end of its stretch
pub ran-all : {c : Config} {trace rows words : List ℕ} {s : Stretch} {rows' words' : List ℕ} {r : Reached} → Ran c trace rows words s rows' words' r
    → s.stops ≡ false → r.at ≡ s.to
ran-all ran off = ⊎_elim (λ e. e) (λ l. absurd (of-false off (of-true (ran.stopped l).0))) (eq-or-lt_of_le ran.come.high)
