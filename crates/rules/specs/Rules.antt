-- The row and the open word of every cycle of a trace, from document 01, "Seven checkers", and document 02, §4, §7 and §8. Assumes nothing.
use Rattle.std.specs.Prelude.{ℕ, zero, suc, ◌+◌, ◌*◌, ◌^◌, Bool, false, ◌&&◌, ◌||◌, cond, eqb}
use Rattle.bits.specs.Bits.{to_bit, bit, some}
use Rattle.rules.specs.declared.config.Config.{Config}
use Rattle.rules.specs.Config.{Family, family, fatal}
use Rattle.rules.specs.Config.Family.{sequence, time, transition, value, stability, none}
use Rattle.rules.specs.Frame.{Trace, up}
use Rattle.rules.specs.Checks.{Checks, accepted, fails, doubts}
use Rattle.rules.specs.Sequence.{sequence_checks, most_seen, attempts}
use Rattle.rules.specs.Time.{time_checks, window_opened, window_reset, illegal_start, window_closed, cycles_left}
use Rattle.rules.specs.Transition.{transition_checks, stored}
use Rattle.rules.specs.Trigger.{value_checks, stability_checks, window_ends, value_left, stability_left}

-- "A row holds a cycle's marks, summed: 1 failure; 2 illegal start; 4 trigger, window opened, or start state seen; 8 window closed; 16 window reset." §8:
-- an unknown bit in a tested value "sets the new mark 32".
pub record Marks : Type 0 where
  pub failure : Bool
  pub illegal : Bool
  pub opened : Bool
  pub closed : Bool
  pub restarted : Bool
  pub unknown : Bool

-- how many marks there are: bit i of a row is the i-th of them
abbrev pub marks : ℕ
marks = 6

unfoldable pub row_of : Marks → ℕ
row_of m =
    1 * to_bit m.failure + 2 * to_bit m.illegal + 4 * to_bit m.opened + 8 * to_bit m.closed + 16 * to_bit m.restarted + 32 * to_bit m.unknown

-- the marks of a cycle where a check can fail or be in doubt and one can be opened, and nothing else
abbrev pub check_marks : Bool → Bool → Bool → Marks
check_marks failure opened unknown = record { failure = failure; illegal = false; opened = opened; closed = false; restarted = false; unknown = unknown }

-- the marks of a cycle where also a window can be closed: "Marks are 1, 4 at the trigger, 8 at s+max."
abbrev pub window_marks : Bool → Bool → Bool → Bool → Marks
window_marks failure opened closed unknown = record { failure = failure; illegal = false; opened = opened; closed = closed; restarted = false; unknown = unknown }

abbrev pub trigger_marks : Checks → Config → Trace → ℕ → Marks
trigger_marks k c tr t = window_marks (fails k t) (accepted k t) (window_ends c tr k t) (doubts k t)

-- The marks that a family's rules give for a cycle out of reset. Mark 1 in every family: some accepted start has its required check violated there. Mark
-- 32: some accepted start has it in doubt, for one reason or for several.
unfoldable pub marks_of : Family → Config → Trace → ℕ → Marks
marks_of sequence c tr t =
    check_marks (fails (sequence_checks c tr) t) (cond (eqb c.kind 0) (most_seen c tr t) (accepted (sequence_checks c tr) t))
    (doubts (sequence_checks c tr) t)
marks_of time c tr t = record {
  failure = fails (time_checks c tr) t;
  illegal = illegal_start c tr t;
  opened = window_opened c tr t;
  closed = window_closed c tr t;
  restarted = window_reset c tr t;
  unknown = doubts (time_checks c tr) t;
}
marks_of transition c tr t = check_marks (fails (transition_checks c tr) t) (accepted (transition_checks c tr) t) (doubts (transition_checks c tr) t)
marks_of value c tr t = trigger_marks (value_checks c tr) c tr t
marks_of stability c tr t = trigger_marks (stability_checks c tr) c tr t
marks_of none c tr t = check_marks false false false

-- "The open word says what is unfinished after a cycle."
unfoldable pub open_of : Family → Config → Trace → ℕ → ℕ
open_of sequence c tr t = attempts c tr t
open_of time c tr t = cycles_left c tr t
open_of transition c tr t = stored c tr t
open_of value c tr t = value_left c tr t
open_of stability c tr t = stability_left c tr t
open_of none c tr t = 0

-- ---- a checker that goes on after a failure

-- "A cycle with reset_n 0 has row 0 and open word 0, and ends every check."
unfoldable pub going_row : Config → Trace → ℕ → ℕ
going_row c tr t = cond (up (tr t)) (row_of (marks_of (family c.kind) c tr t)) 0

unfoldable pub going_word : Config → Trace → ℕ → ℕ
going_word c tr t = cond (up (tr t)) (open_of (family c.kind) c tr t) 0

-- the open word before a cycle: "Before cycle 0 the word is 0."
unfoldable pub going_word_before : Config → Trace → ℕ → ℕ
going_word_before c tr zero = 0
going_word_before c tr (suc t) = going_word c tr t

-- ---- any checker

-- a row "with mark 1 or 2", whatever its other bits are: "Mark 32 is no failure"
unfoldable pub failing : ℕ → Bool
failing row = bit row 0 || bit row 1

-- "After a cycle with mark 1 or 2 on a fatal checker": one of the cycles before t has such a mark, by the rules of a checker that goes on
unfoldable pub stopped_before : Config → Trace → ℕ → Bool
stopped_before c tr t = fatal c && some t (λ s. failing (going_row c tr s))

-- "the open word is 2^63 to the end of the trace, rows are 0, and a reset does not revive it." "The failing cycle itself has all its marks."
abbrev pub stopped_word : ℕ
stopped_word = 2 ^ 63

unfoldable pub row : Config → Trace → ℕ → ℕ
row c tr t = cond (stopped_before c tr t) 0 (going_row c tr t)

unfoldable pub word : Config → Trace → ℕ → ℕ
word c tr t = cond (stopped_before c tr (suc t)) stopped_word (going_word c tr t)

unfoldable pub word_before : Config → Trace → ℕ → ℕ
word_before c tr zero = 0
word_before c tr (suc t) = word c tr t
