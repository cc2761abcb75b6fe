-- The worked examples of document 01, below the whiteboard table, follow from the rules by computation. Assumes nothing.
use mathlib.Core.List.{[], ◌∷◌}
use mathlib.Core.Path.{◌≡◌, refl}
use Rattle.bits.specs.Bits.{bit, some, every, number}
use Rattle.bus.specs.Range.{width, wire_of, value_of}
use Rattle.rules.specs.Config.{family, fatal}
use Rattle.rules.specs.Frame.{up}
use Rattle.rules.specs.Checks.{accept, accepted_before, accepted, busy, fails, doubts}
use Rattle.rules.specs.Sequence.{event_missed, event_unknown, event, alive, attempt_tested, attempt_finds, sequence_checks, most_seen}
use Rattle.rules.specs.Rules.{row_of, marks_of, going_row, failing, stopped_before}
use Rattle.rules.specs.Whiteboard.{Case, trace_of, sequence_case, made_fatal}
use Rattle.listed.specs.Lists.{chosen, checks_of, going_failed, going_illegal, failed, illegal, failures_at, failures_to, words_of}

abbrev f1 : Case
f1 = sequence_case 1 3 (record { left = 2; right = 0 }) (4 ∷ 6 ∷ 0 ∷ [])

abbrev c : Case
c = sequence_case 1 4 (record { left = 0; right = 3 }) (8 ∷ 4 ∷ 10 ∷ 5 ∷ 2 ∷ 1 ∷ [])

-- "Samples of F under kind 1 list (2,1,0), (2,1,1)."
pub list-of-f : words_of (failures_to f1.config (trace_of f1) 3) ≡ 2 ∷ 1 ∷ 0 ∷ 2 ∷ 1 ∷ 1 ∷ []
unfolding bit some every width wire_of value_of family up accept accepted_before accepted busy fails doubts event_missed event_unknown event alive attempt_tested attempt_finds sequence_checks chosen checks_of going_failed going_illegal fatal marks_of row_of most_seen going_row failing stopped_before failed illegal failures_at failures_to words_of number
list-of-f = refl

-- "C lists (5,1,3)."
pub list-of-c : words_of (failures_to c.config (trace_of c) 6) ≡ 5 ∷ 1 ∷ 3 ∷ []
unfolding bit some every width wire_of value_of family up accept accepted_before accepted busy fails doubts event_missed event_unknown event alive attempt_tested attempt_finds sequence_checks chosen checks_of going_failed going_illegal fatal marks_of row_of most_seen going_row failing stopped_before failed illegal failures_at failures_to words_of number
list-of-c = refl

-- Document 02, §7: the samples of E list (2,1,1), (3,1,2), (4,1,3) and (5,1,4), and where the checker is fatal (2,1,1) alone.
abbrev e : Case
e = sequence_case 1 3 (record { left = 2; right = 0 }) (4 ∷ 6 ∷ 5 ∷ 4 ∷ 4 ∷ 4 ∷ [])

pub list-of-e : words_of (failures_to e.config (trace_of e) 6) ≡ 2 ∷ 1 ∷ 1 ∷ 3 ∷ 1 ∷ 2 ∷ 4 ∷ 1 ∷ 3 ∷ 5 ∷ 1 ∷ 4 ∷ []
unfolding bit some every width wire_of value_of family up accept accepted_before accepted busy fails doubts event_missed event_unknown event alive attempt_tested attempt_finds sequence_checks chosen checks_of going_failed going_illegal fatal marks_of row_of most_seen going_row failing stopped_before failed illegal failures_at failures_to words_of number
list-of-e = refl

pub list-of-fatal-e : words_of (failures_to (made_fatal e).config (trace_of (made_fatal e)) 6) ≡ 2 ∷ 1 ∷ 1 ∷ []
unfolding bit some every width wire_of value_of family up accept accepted_before accepted busy fails doubts event_missed event_unknown event alive attempt_tested attempt_finds sequence_checks chosen checks_of going_failed going_illegal fatal marks_of row_of most_seen going_row failing stopped_before failed illegal failures_at failures_to words_of number
list-of-fatal-e = refl
