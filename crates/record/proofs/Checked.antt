-- What the full check's run writes is the trace's true record. Assumes nothing.
use Prim.Native.Nat.{ℕ, suc, zero-le}
use mathlib.Core.Path.{◌≡◌, refl, ap, ◌∙◌}
use mathlib.Core.Bool.{false}
use mathlib.Core.List.{List}
use native.Mathlib.Nat.{zero-add, le_refl}
use native.Mathlib.Omega.{arith}
use lib.ListN.{length}
use Rattle.rules.specs.declared.config.Config.{Config}
use Rattle.rules.specs.Rules.{row, word_before}
use Rattle.rules.proofs.Reached.{zero-possible}
use Rattle.trace.specs.declared.stretch.Stretch.{Stretch}
use Rattle.trace.specs.declared.stretch.Reached.{Reached}
use Rattle.trace.specs.Traces.{frame_at}
use Rattle.trace.specs.Stretches.{Runnable, Ran}
use Rattle.trace.proofs.Running.{ran-all}
use Rattle.trace.proofs.Followed.{stretch-words, stretch-rows}
use Rattle.lengths.proofs.Refusals.{Accepted, accepted-short}
use Rattle.record.specs.Records.{TrueRecord}

-- the whole trace
abbrev pub all : ℕ → Stretch
all n = record { from = 0; at = 0; to = n; stops = false; word = 0; kept = 0 }

module _ (c : Config) (trace rows words : List ℕ) (ok : Accepted c trace rows words) where
  pub runnable : Runnable c trace rows words (all (length rows))
  runnable = record {
    good = ok.good;
    possible_word = zero-possible c ok.good;
    low = zero-le;
    rows_hold = le_refl (length rows);
    words_hold = omega (arith, ok.rows_length, ok.words_length);
    in_trace = omega (arith, ok.rows_length);
    short = accepted-short ok;
  }

  pub filled : (rows' words' : List ℕ) (r : Reached) → Ran c trace rows words (all (length rows)) rows' words' r → TrueRecord c trace rows' words'
  unfolding word_before
  filled rows' words' r ran =
      let end : r.at ≡ length rows = ran-all ran refl in
      record {
        rows_length = ran.come.rows_are.same_length ∙ ok.rows_length;
        words_length = ran.come.words_are.same_length ∙ ok.words_length;
        rows_are = λ t h.
            ran.come.rows_are.within t zero-le (omega (arith, ok.rows_length))
            ∙ stretch-rows c ok.good trace (all (length rows)) refl t zero-le ∙ ap (row c (frame_at trace)) (zero-add t);
        words_are = λ t h.
            ran.come.words_are.within t zero-le (omega (arith, ok.rows_length))
            ∙ stretch-words c ok.good trace (all (length rows)) refl (suc t) zero-le ∙ ap (word_before c (frame_at trace)) (zero-add (suc t));
      }
