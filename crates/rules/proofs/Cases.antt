-- Claim 1: the twelve cases of the whiteboard table and the seventeen below it follow from the rules' definitions, rows and words, by computation. Assumes nothing.
use mathlib.Core.List.{map}
use Rattle.rules.specs.Frame.{up, enabled}
use Rattle.rules.specs.Rules.{row, word, row_of, marks_of, open_of, going_row, going_word, failing, stopped_before}
use mathlib.Core.Path.{◌≡◌, refl}
use Rattle.bits.specs.Bits.{bit, some, every, number}
use Rattle.bus.specs.Range.{width, wire_of, value_of}
use Rattle.rules.specs.Config.{family, fatal}
use Rattle.rules.specs.Checks.{accept, accepted_before, accepted, busy, fails, doubts}
use Rattle.rules.specs.Sequence.{event_missed, event_unknown, event, alive, attempt_tested, attempt_finds, sequence_checks, most_seen, attempts}
use Rattle.rules.specs.Time.{test_missed, test_unknown, window_pending, start_seen, restarts, window_finds, time_checks, window_opened, window_reset, illegal_start, window_closed, cycles_left}
use Rattle.rules.specs.Transition.{in_start_state, stored_check, transition_checks, stored}
use Rattle.rules.specs.Window.{between, at_last, at_first}
use Rattle.rules.specs.Trigger.{trigger_seen, trigger_pending, in_window, tested, compared, trigger_checks, value_checks, has_reference, reference, stability_checks, window_ends, left_with, value_left, stability_left}
use Rattle.rules.specs.Whiteboard.{table, by_rules}

pub whiteboard : map by_rules table ≡ table
unfolding bit some every number width wire_of value_of family up accept accepted_before accepted busy fails doubts event_missed event_unknown event alive attempt_finds sequence_checks most_seen attempts between at_last start_seen test_missed test_unknown restarts window_finds time_checks window_opened window_reset illegal_start window_closed cycles_left in_start_state stored_check transition_checks stored row_of marks_of open_of going_row going_word failing fatal stopped_before row word attempt_tested window_pending enabled at_first trigger_seen trigger_pending in_window tested compared trigger_checks value_checks has_reference reference stability_checks window_ends left_with value_left stability_left
whiteboard = refl
