-- Two edits, each rechecked, from document 02, §12. Both claims, `TakesBack` and `EitherOrder`, are over every configuration and trace that a full check accepts, and over
-- any records and answers that meet the contract of the recheck, `RecheckAnswer`: nothing here names a step or a kind. They are proved by `takes_back` and `either_order` of
-- `proofs/Claims.antt`. Assumes nothing.
use Rattle.std.specs.Prelude.{ℕ, ◌≤◌, ◌<◌, ◌≡◌, List, T, ℤ, pos, ◌+ℤ◌, get_or}
use Rattle.rules.specs.declared.config.Config.{Config}
use Rattle.rules.specs.Config.{Good}
use Rattle.rules.specs.Frame.{Trace}
use Rattle.rules.specs.Rules.{marks}
use Rattle.trace.specs.Traces.{frames, frame_at, trace_fits}
use Rattle.record.specs.Records.{TrueRecord}
use Rattle.recheck.specs.declared.edit.RecheckResult.{RecheckResult}
use Rattle.recheck.specs.Rechecks.{Edited, RecheckAnswer}

-- what a viewer holds: a trace and the record that it keeps of it
pub record Held : Type 0 where
  pub trace : List ℕ
  pub rows : List ℕ
  pub words : List ℕ

-- "from a true record": a configuration and a trace that a full check accepts, with the trace's true record
pub record Checked (config : Config) (held : Held) : Type 0 where
  pub good : Good config
  pub fits : T (trace_fits held.trace)
  pub record_is : TrueRecord config held.trace held.rows held.words

-- a recheck of cycles a to b−1 of the trace that is held after it, from the record that was held before it: any that meets the contract
abbrev pub Rechecks : Config → ℕ → ℕ → Held → Held → RecheckResult → Type 0
Rechecks config a b before after result =
    RecheckAnswer config after.trace before.rows before.words a b after.rows after.words result.refusal result.cycle result.end result.changes

-- an edit of cycles a to b−1, which get the given samples, and the recheck after it
pub record Edit (config : Config) (a b : ℕ) (samples : Trace) (before after : Held) (result : RecheckResult) : Type 0 where
  pub low : a ≤ b
  pub high : b ≤ frames before.trace
  pub edited : Edited before.trace after.trace a b
  pub samples_are : (t : ℕ) → a ≤ t → t < b → frame_at after.trace t ≡ samples t
  pub rechecked : Rechecks config a b before after result

-- what two rechecks add to the count of mark i
abbrev pub change_of_both : RecheckResult → RecheckResult → ℕ → ℤ
change_of_both first second i = get_or first.changes i (pos 0) +ℤ get_or second.changes i (pos 0)

-- ---- "Taking an edit back"

-- "from a true record, an edit and then one that restores the old samples in the same a to b"
pub record ThereAndBack (config : Config) (a b : ℕ) (samples : Trace) (old edited back : Held) (first second : RecheckResult) : Type 0 where
  pub from_true : Checked config old
  pub edit : Edit config a b samples old edited first
  pub restores : Edit config a b (frame_at old.trace) edited back second

-- "leave the old rows and words, and their changes add to 0 for each mark"; neither recheck is refused
pub record TakenBack (old back : Held) (first second : RecheckResult) : Type 0 where
  pub edit_accepted : first.refusal ≡ 0
  pub back_accepted : second.refusal ≡ 0
  pub rows_are_old : back.rows ≡ old.rows
  pub words_are_old : back.words ≡ old.words
  pub changes_cancel : (i : ℕ) → i < marks → change_of_both first second i ≡ pos 0

abbrev pub TakesBack : Type 0
TakesBack =
    (config : Config) (a b : ℕ) (samples : Trace) (old edited back : Held) (first second : RecheckResult)
    → ThereAndBack config a b samples old edited back first second → TakenBack old back first second

-- ---- "in either order"

-- "two edits whose cycles do not meet", of a to b−1 and of c to d−1: the one and then the other, and the other and then the one
pub record BothOrders
    (config : Config) (a b c d : ℕ) (samples others : Trace) (old one both other swapped : Held) (first second first' second' : RecheckResult) : Type 0 where
  pub from_true : Checked config old
  pub apart : b ≤ c
  pub one_first : Edit config a b samples old one first
  pub other_second : Edit config c d others one both second
  pub other_first : Edit config c d others old other first'
  pub one_second : Edit config a b samples other swapped second'

-- they "give the same record in either order", and the same sum of each mark's changes; no recheck is refused. Nothing is said of the ends, which "may differ".
pub record SameRecord (both swapped : Held) (first second first' second' : RecheckResult) : Type 0 where
  pub accepted : (first.refusal ≡ 0) × (second.refusal ≡ 0)
  pub accepted_swapped : (first'.refusal ≡ 0) × (second'.refusal ≡ 0)
  pub rows_same : both.rows ≡ swapped.rows
  pub words_same : both.words ≡ swapped.words
  pub sums_same : (i : ℕ) → i < marks → change_of_both first second i ≡ change_of_both first' second' i

abbrev pub EitherOrder : Type 0
EitherOrder =
    (config : Config) (a b c d : ℕ) (samples others : Trace) (old one both other swapped : Held) (first second first' second' : RecheckResult)
    → BothOrders config a b c d samples others old one both other swapped first second first' second' → SameRecord both swapped first second first' second'
