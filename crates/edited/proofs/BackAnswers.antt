-- The answers of `edit_and_take_back`, from the contracts of the calls before each return. What §12 says of them is the claim `takes_back`, of the trace with the samples in it and of
-- the trace as it was. Assumes nothing.
use Prim.Native.Nat.{ℕ, ◌+◌, ◌-◌, ◌*◌, ◌≤◌}
use mathlib.Core.Path.{◌≡◌, refl, sym, ap, ◌∙◌}
use mathlib.Core.Bool.{Bool, true, false, ◌&&◌, cond}
use mathlib.Core.List.{List}
use native.Mathlib.Omega.{arith}
use lib.Dec.{eqb, leb, lit≤}
use lib.IntN.{pos}
use lib.ListN.{length, replicate}
use Rattle.std.specs.Prelude.{Err}
use Rattle.rules.specs.declared.refusal.Refusal.{Refusal}
use Rattle.rules.specs.Refusals.{number_of, cycle_named}
use Rattle.rules.specs.Rules.{marks}
use Rattle.rules.proofs.Refusals.{is-refused, no-cycle}
use Rattle.rules.specs.declared.config.Config.{Config}
use Rattle.rules.specs.Frame.{frame_words}
use Rattle.trace.specs.Traces.{frames, frame_at}
use Rattle.lengths.specs.Lengths.{check_refusal}
use Rattle.recheck.specs.declared.edit.Rechecked.{Rechecked}
use Rattle.recheck.specs.declared.edit.RecheckResult.{RecheckResult}
use Rattle.recheck.specs.Answers.{numbers_of}
use Rattle.recheck_refusals.proofs.Refusals.{check-low}
use Rattle.edit_samples.specs.Samples.{edit_refusal}
use Rattle.edit_samples.proofs.Refusals.{Editable}
use Rattle.edit_samples.proofs.Swaps.{trace-back, samples-back}
use Rattle.two_edits.specs.TwoEdits.{Held, Edit}
use Rattle.two_edits.proofs.Claims.{takes_back}
use Rattle.edited.specs.Edits.{NotDone}
use Rattle.edited.specs.Back.{SwappedAndRechecked, refusal_of, Spoiled, BackAnswer}
use Rattle.edited.proofs.Stores.{written-edited}
use Rattle.edited.proofs.Answers.{not_done}
use Rattle.edited.proofs.Alike.{refused-alike, named-alike}

-- no test of an edit before its rechecks names a cycle
edit-low : (config : Config) (old : Held) (a b : ℕ) (samples : List ℕ) → refusal_of config old a b samples ≤ 6
unfolding edit_refusal
edit-low config old a b samples =
    by (eqb (check_refusal config old.trace old.rows old.words) 0) (eqb (length samples) (frame_words * (b - a))) (leb a b && leb b (frames old.trace))
  where
    by : (p q s : Bool) → cond p (cond q (cond s 0 6) 5) (check_refusal config old.trace old.rows old.words) ≤ 6
    by true true true = lit≤ tt
    by true true false = lit≤ tt
    by true false s = lit≤ tt
    by false q s = check-low config old.trace old.rows old.words a b

pub refused : (config : Config) (old : Held) (a b : ℕ) (samples : List ℕ) (e : Refusal) → number_of e ≡ refusal_of config old a b samples
    → BackAnswer config a b samples samples old old (numbers_of (Err e)) (numbers_of (Err e))
refused config old a b samples e is =
    let some = is-refused e in
    let same : NotDone (refusal_of config old a b samples) (number_of e) (cycle_named e) 0 (replicate marks (pos 0)) =
    rw (no-cycle {A = Rechecked} (Err e) _ is (omega (arith, edit-low config old a b samples))) (not_done is) in
    record {
      trace_kept = refl;
      samples_kept = refl;
      refused = λ _. record { rows_kept = refl; words_kept = refl; first_is = same; second_is = same };
      done = λ z. absurd (omega arith);
      spoiled = λ z _. absurd (omega arith);
      taken_back = λ z _. absurd (omega arith);
    }

module _ {config : Config} {old : Held} {a b : ℕ} {samples : List ℕ} (ok : Editable config old.trace old.rows old.words a b samples) where
  samples-end : frame_words * a + length samples ≡ frame_words * b
  samples-end = omega (arith, ok.samples-length, ok.low)

  -- the trace has all words of cycles a to b−1, before the samples change places and after
  pub room : frame_words * a + length samples ≤ length old.trace
  unfolding frames
  room = omega (arith, samples-end, ok.high)

  pub room-again : {edited : Held} {samples₁ : List ℕ} {first : RecheckResult} → SwappedAndRechecked config a b samples samples₁ old edited first
      → frame_words * a + length samples₁ ≤ length edited.trace
  room-again there = omega (arith, room, there.swapped.trace_is.same_length, there.swapped.samples_are.same_length)

  module _
      {edited back : Held} {samples₁ samples₂ : List ℕ} {first second : RecheckResult}
      (there : SwappedAndRechecked config a b samples samples₁ old edited first) (again : SwappedAndRechecked config a b samples₁ samples₂ edited back second)
    where
      same : back.trace ≡ old.trace
      same = trace-back there.swapped again.swapped

      edit : Edit config a b (frame_at edited.trace) old edited first
      edit = record {
        low = ok.low;
        high = ok.high;
        edited = written-edited _ a b old.trace edited.trace (rw samples-end at there.swapped.trace_is);
        samples_are = λ t _ _. refl;
        rechecked = there.rechecked;
      }

      restores : Edit config a b (frame_at old.trace) edited back second
      unfolding frames
      restores = record {
        low = ok.low;
        high = omega (arith, ok.high, there.swapped.trace_is.same_length);
        edited = written-edited _ a b edited.trace back.trace (rw (there.swapped.samples_are.same_length, samples-end) at again.swapped.trace_is);
        samples_are = λ t _ _. ap (λ (l : List ℕ). frame_at l t) same;
        rechecked = again.rechecked;
      }

      -- the first recheck leaves all as it was, so the second is refused for the same
      spoiled : (first.refusal ≡ 0 → ⊥) → Spoiled old back first second
      spoiled h =
          let kept = there.rechecked.refused h in
          let tested = rw (kept.rows_kept, kept.words_kept) at again.rechecked.tested in
          let refusal_is : second.refusal ≡ first.refusal =
          tested.refusal_is ∙ refused-alike config back.trace edited.trace old.rows old.words a b again.swapped.trace_is.same_length
          ∙ sym there.rechecked.tested.refusal_is in
          let kept' = again.rechecked.refused (λ z. h (sym refusal_is ∙ z)) in
          record {
            rows_kept = kept'.rows_kept ∙ kept.rows_kept;
            words_kept = kept'.words_kept ∙ kept.words_kept;
            same_refusal = refusal_is;
            same_cycle = named-alike there.rechecked.tested.named (rw refusal_is at tested.named);
          }

      pub done : BackAnswer config a b samples samples₂ old back first second
      done = record {
        trace_kept = same;
        samples_kept = samples-back there.swapped again.swapped;
        refused = λ n. absurd (n ok.accepted);
        done = λ _. record { edited = edited; samples_are = rw samples-end at there.swapped.trace_is; edit_rechecked = there.rechecked; back_rechecked = again.rechecked };
        spoiled = λ _. spoiled;
        taken_back =
            λ _ true-record.
            takes_back config a b (frame_at edited.trace) old edited back first second
            (record {
              from_true = record { good = ok.lengths.good; fits = ok.lengths.fits; record_is = true-record };
              edit = edit;
              restores = restores;
            });
      }
