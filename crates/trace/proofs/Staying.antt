-- A run that has failed: one entry further, and what the whole is for a fatal checker. Assumes nothing.
use Prim.Native.Nat.{ℕ, zero, suc, ◌+◌, ◌≤◌, ◌<◌}
use mathlib.Core.Path.{◌≡◌, refl, sym, subst⁻¹, ◌∙◌}
use mathlib.Core.Bool.{Bool, true, false, cond}
use mathlib.Core.List.{List}
use mathlib.Core.Logic.{⊎_elim}
use native.Mathlib.Nat.{le_refl, le_step, eq-or-lt_of_le, le_of_suc-le-suc}
use native.Mathlib.Omega.{arith}
use lib.Dec.{T, ltb}
use lib.ListN.{length, get_or, set}
use Rattle.rules.specs.declared.config.Config.{Config}
use Rattle.rules.specs.Config.{fatal}
use Rattle.rules.specs.Rules.{stopped_word}
use Rattle.rules.specs.Step.{step_word}
use Rattle.rules.specs.Possible.{possible}
use Rattle.rules.proofs.Claims.{steps-stopped}
use Rattle.trace.specs.declared.stretch.Stretch.{Stretch}
use Rattle.trace.specs.declared.stretch.Reached.{Reached}
use Rattle.trace.specs.Traces.{frame_at}
use Rattle.trace.specs.Runs.{word_at, Written}
use Rattle.trace.specs.Stretches.{kept_from, stretch_word, stretch_row, Runnable, Ran, Staying, Stayed}
use Rattle.trace.proofs.Written.{written_none, written-more}
use Rattle.trace.proofs.Running.{kept-enters, kept-steps}

module _ {start to : ℕ} {stops : Bool} {before : ℕ} {rows₀ words₀ : List ℕ} where
  pub staying-none : start ≤ to → Staying start to stops before rows₀ words₀ rows₀ words₀ start before
  staying-none low = record {
    low = le_refl start;
    high = low;
    kept_is = sym (kept-enters words₀ start before start (le_refl start));
    rows_are = written_none (λ k. 0) start rows₀;
    words_are = written_none (λ k. stopped_word) start words₀;
    going_on = λ on k l h. absurd (omega arith);
  }

  pub staying-more : {rows words : List ℕ} {k kept : ℕ} → Staying start to stops before rows₀ words₀ rows words k kept → k < to → to ≤ length rows₀
      → to ≤ length words₀ → (stops ≡ true → kept ≡ stopped_word → ⊥)
      → Staying start to stops before rows₀ words₀ (set rows k 0) (set words k stopped_word) (suc k) (get_or words k 0)
  staying-more {rows} {words} {k} {kept} run here rows_hold words_hold differs = record {
    low = le_step run.low;
    high = here;
    kept_is = run.words_are.beyond k (le_refl k) ∙ sym (kept-steps words₀ start before k run.low);
    rows_are = written-more (λ j. 0) start k rows₀ rows 0 run.low (omega arith) refl run.rows_are;
    words_are = written-more (λ j. stopped_word) start k words₀ words stopped_word run.low (omega arith) refl run.words_are;
    going_on = λ on u low b. ⊎_elim (here-differs on u) (run.going_on on u low) (eq-or-lt_of_le (le_of_suc-le-suc b));
  }
    where
      here-differs : stops ≡ true → (u : ℕ) → u ≡ k → stopped_word ≡ kept_from words₀ start before u → ⊥
      here-differs on u e q =
          differs on (run.kept_is ∙ sym (rw e at q))

-- a fatal checker that has failed stays there
module _ (c : Config) (e : fatal c ≡ true) (trace : List ℕ) (s : Stretch) (stops : s.word ≡ stopped_word) where
  word-stays : (k : ℕ) → stretch_word c trace s k ≡ stopped_word
  unfolding stretch_word word_at
  word-stays zero = stops
  word-stays (suc k) =
      rw (word-stays k) (by (ltb k s.at))
    where
      by : (b : Bool) → cond b s.word (step_word c stopped_word (frame_at trace (s.from + k))) ≡ stopped_word
      by true = stops
      by false = sym (steps-stopped c (frame_at trace (s.from + k)) e).word_is

  row_stays : (k : ℕ) → stretch_row c trace s k ≡ 0
  unfolding stretch_row
  row_stays k = rw (word-stays k) (sym (steps-stopped c (frame_at trace (s.from + k)) e).row_is)

  written_as : (f : ℕ → ℕ) (x : ℕ) → ((k : ℕ) → f k ≡ x) → {a b : ℕ} {l l' : List ℕ} → Written (λ k. x) a b l l' → Written f a b l l'
  written_as f x is w = record { same_length = w.same_length; below = w.below; within = λ t p q. w.within t p q ∙ sym (is t); beyond = w.beyond }

  pub stayed-ran : {rows words rows' words' : List ℕ} {r : Reached} → Runnable c trace rows words s → Stayed s rows words rows' words' r
      → Ran c trace rows words s rows' words' r
  stayed-ran {rows} {words} {rows'} {words'} {r} m h = record {
    come = record {
      low = h.come.low;
      high = h.come.high;
      word_is = h.word_is ∙ sym (word-stays r.at);
      possible_word = subst⁻¹ (λ (w : ℕ). T (possible c w)) (h.word_is ∙ sym stops) m.possible_word;
      kept_is = h.come.kept_is;
      rows_are = written_as (stretch_row c trace s) 0 row_stays h.come.rows_are;
      words_are = written_as (λ k. stretch_word c trace s (suc k)) stopped_word (λ k. word-stays (suc k)) h.come.words_are;
      going_on = λ on k low l q. h.come.going_on on k low l (sym (word-stays k) ∙ q);
    };
    stopped = λ l. let q = h.ended l in (q.0, h.word_is ∙ sym q.1);
  }
