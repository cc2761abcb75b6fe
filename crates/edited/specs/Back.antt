-- An edit that is made, rechecked, taken back and rechecked again, in lent buffers: document 02, §12, as the contract of code. Assumes nothing.
use Rattle.std.specs.Prelude.{ℕ, ◌-◌, ◌*◌, ◌≡◌, List, get_or}
use Rattle.rules.specs.declared.config.Config.{Config}
use Rattle.rules.specs.Frame.{frame_words}
use Rattle.trace.specs.Runs.{Written}
use Rattle.record.specs.Records.{TrueRecord}
use Rattle.edit_samples.specs.Samples.{edit_refusal, Swapped}
use Rattle.recheck.specs.declared.edit.RecheckResult.{RecheckResult}
use Rattle.two_edits.specs.TwoEdits.{Held, Rechecks, TakenBack}
use Rattle.edited.specs.Edits.{NotDone}

-- The samples and those of the trace from cycle a on have changed places, and then cycles a to b−1 were rechecked.
pub record SwappedAndRechecked (config : Config) (a b : ℕ) (samples samples' : List ℕ) (before after : Held) (result : RecheckResult) : Type 0 where
  pub swapped : Swapped before.trace samples (frame_words * a) after.trace samples'
  pub rechecked : Rechecks config a b before after result

-- the refusal of an edit of what is held
abbrev pub refusal_of : Config → Held → ℕ → ℕ → List ℕ → ℕ
refusal_of config held a b samples = edit_refusal config held.trace held.rows held.words a b samples

-- Two rechecks: one of the trace with the samples in cycles a to b−1, and one of the old trace.
pub record TwoRechecks (config : Config) (a b : ℕ) (samples : List ℕ) (old back : Held) (first second : RecheckResult) : Type 0 where
  pub edited : Held
  pub samples_are : Written (λ j. get_or samples (j - frame_words * a) 0) (frame_words * a) (frame_words * b) old.trace edited.trace
  pub edit_rechecked : Rechecks config a b old edited first
  pub back_rechecked : Rechecks config a b edited back second

-- refused: nothing is altered, and both answers are the refusal number with zeros
pub record NotEdited (number : ℕ) (old back : Held) (first second : RecheckResult) : Type 0 where
  pub rows_kept : back.rows ≡ old.rows
  pub words_kept : back.words ≡ old.words
  pub first_is : NotDone number first.refusal first.cycle first.end first.changes
  pub second_is : NotDone number second.refusal second.cycle second.end second.changes

-- refused for a kept word, which is for a recheck to tell (7): nothing is altered, and both answers are the same
pub record Spoiled (old back : Held) (first second : RecheckResult) : Type 0 where
  pub rows_kept : back.rows ≡ old.rows
  pub words_kept : back.words ≡ old.words
  pub same_refusal : second.refusal ≡ first.refusal
  pub same_cycle : second.cycle ≡ first.cycle

-- What the call leaves: the trace and the samples as they were, on any input; what two rechecks leave and answer; and, from a true record, all that §12 says of an
-- edit that is taken back.
pub record BackAnswer (config : Config) (a b : ℕ) (samples samples' : List ℕ) (old back : Held) (first second : RecheckResult) : Type 0 where
  pub trace_kept : back.trace ≡ old.trace
  pub samples_kept : samples' ≡ samples
  pub refused : (refusal_of config old a b samples ≡ 0 → ⊥) → NotEdited (refusal_of config old a b samples) old back first second
  pub done : refusal_of config old a b samples ≡ 0 → TwoRechecks config a b samples old back first second
  pub spoiled : refusal_of config old a b samples ≡ 0 → (first.refusal ≡ 0 → ⊥) → Spoiled old back first second
  pub taken_back : refusal_of config old a b samples ≡ 0 → TrueRecord config old.trace old.rows old.words → TakenBack old back first second
