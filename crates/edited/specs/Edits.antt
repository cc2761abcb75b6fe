-- One cycle of a trace replaced, and what a full check, that edit and a recheck leave. Assumes nothing.
use Rattle.std.specs.Prelude.{ℕ, suc, ◌+◌, ◌*◌, ◌≤◌, ◌<◌, ◌≡◌, List, ℤ, pos, get_or}
use Rattle.rules.specs.declared.config.Config.{Config}
use Rattle.rules.specs.declared.frame.Frame.{Frame}
use Rattle.rules.specs.Frame.{frame_words, frame_word}
use Rattle.rules.specs.Rules.{marks}
use Rattle.trace.specs.Traces.{frames}
use Rattle.lengths.specs.Lengths.{check_refusal}
use Rattle.record.specs.Records.{TrueRecord}
use Rattle.recheck.specs.Rechecks.{Edited, Demanded}

-- the trace with the frame f in cycle t, and the same frames elsewhere
pub record Stored (old trace : List ℕ) (t : ℕ) (f : Frame) : Type 0 where
  pub edited : Edited old trace t (suc t)
  pub frame_is : (k : ℕ) → k < frame_words → get_or trace (frame_words * t + k) 0 ≡ frame_word f k

-- where the full check accepts and the trace has the cycle: the recheck did as demand 3 asks, from the old trace's true record
pub record Done
    (c : Config) (old : List ℕ) (t : ℕ) (f : Frame) (trace rows words : List ℕ) (refusal cycle e : ℕ) (changes : List ℤ) : Type 0 where
  pub stored : Stored old trace t f
  pub old_rows : List ℕ
  pub old_words : List ℕ
  pub old_record : TrueRecord c old old_rows old_words
  pub demanded : Demanded c old trace old_rows (suc t) rows words refusal e changes
  pub names_none : cycle ≡ 0

-- otherwise: the refusal number, and zeros for the other numbers
pub record NotDone (number refusal cycle e : ℕ) (changes : List ℤ) : Type 0 where
  pub refusal_is : refusal ≡ number
  pub cycle_is : cycle ≡ 0
  pub end_is : e ≡ 0
  pub changes_are : (i : ℕ) → i < marks → get_or changes i (pos 0) ≡ pos 0

pub record Replaced
    (c : Config) (old rows₀ words₀ : List ℕ) (t : ℕ) (f : Frame) (trace rows words : List ℕ) (refusal cycle e : ℕ) (changes : List ℤ) : Type 0 where
  pub done : check_refusal c old rows₀ words₀ ≡ 0 → t < frames old → Done c old t f trace rows words refusal cycle e changes
  -- refused by the full check: nothing is altered
  pub refused : (check_refusal c old rows₀ words₀ ≡ 0 → ⊥)
      → NotDone (check_refusal c old rows₀ words₀) refusal cycle e changes × (trace ≡ old) × (rows ≡ rows₀) × (words ≡ words₀)
  -- no such cycle: the record of the trace as it is
  pub no_cycle : check_refusal c old rows₀ words₀ ≡ 0 → frames old ≤ t → NotDone 6 refusal cycle e changes × (trace ≡ old) × TrueRecord c old rows words
