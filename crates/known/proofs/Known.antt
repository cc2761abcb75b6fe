-- A trace without unknown bits has the rows and words that it had before: `known-as-before`.
--
-- Where the unknown words are 0, a word without its unknown bits is the word (`frames-known`). So the checks of each family are those before, and are never in doubt
-- (`sequence-is` to `stability-is`): the same starts are accepted, the same checks are pending and fail, and mark 32 is not set (`checks-known`). Marks, open words, rows and
-- words follow. Assumes nothing.
use Prim.Native.Nat.{ℕ, zero, suc, zero-le}
use mathlib.Core.Path.{◌≡◌, refl, ap, ap₂, fun_ext}
use mathlib.Core.Bool.{Bool, false, and-true, and-false}
use native.Mathlib.Nat.{add-zero}
use lib.Dec.{lit<}
use Rattle.bits.specs.Bits.{bit, some}
use Rattle.bits.proofs.Bits.{without-none, bit_past}
use Rattle.bits.proofs.Tests.{some-none}
use Rattle.bus.proofs.Wires.{value-zero}
use Rattle.rules.specs.declared.config.Config.{Config}
use Rattle.rules.specs.Config.{Family}
use Rattle.rules.specs.Config.Family.{sequence, time, transition, value, stability, none}
use Rattle.rules.specs.Frame.{Trace, unknown, up, enabled}
use Rattle.rules.specs.Checks.{Checks, accept, accepted_before, accepted, busy, fails, doubts}
use Rattle.rules.specs.Sequence.{event_missed, event_unknown, event, alive, attempt_tested, attempt_finds, sequence_checks, most_seen, attempts}
use Rattle.rules.specs.Time.{test_missed, test_unknown, start_seen, restarts, window_pending, window_finds, time_checks, window_reset, window_opened, illegal_start, window_closed, cycles_left}
use Rattle.rules.specs.Transition.{in_start_state, stored_check, transition_checks, stored}
use Rattle.rules.specs.Window.{at_first}
use Rattle.rules.specs.Trigger.{trigger_seen, trigger_pending, in_window, tested, compared, trigger_checks, value_checks, has_reference, reference, stability_checks, window_ends, left_with, value_left, stability_left}
use Rattle.rules.specs.Rules.{row_of, marks_of, open_of, going_row, going_word, failing, stopped_before, row, word}
use Rattle.known.specs.Claims.{Known, AsBefore}
use Rattle.known.specs.Known as Before

-- ---- checks that are never in doubt

without_doubt : Before.Checks → Checks
without_doubt b = record { starts = b.starts; pending = b.pending; violated = b.violated; doubtful = λ s t. false; ignores = b.ignores }

-- what checks say of cycle t, for a start at s
record Said : Type 0 where
  starts : Bool
  pending : Bool
  violated : Bool
  doubtful : Bool

said : Checks → ℕ → ℕ → Said
said k s t = record { starts = k.starts s; pending = k.pending s t; violated = k.violated s t; doubtful = k.doubtful s t }

-- checks that say the same are equal
checks-are : (k m : Checks) → ((s t : ℕ) → said k s t ≡ said m s t) → k.ignores ≡ m.ignores → k ≡ m
unfolding said
checks-are k m same ignores i = record {
  starts = λ s. (same s s i).starts;
  pending = λ s t. (same s t i).pending;
  violated = λ s t. (same s t i).violated;
  doubtful = λ s t. (same s t i).doubtful;
  ignores = ignores i;
}

module _ (b : Before.Checks) where
  before-is : (t : ℕ) → accepted_before (without_doubt b) t ≡ Before.accepted_before b t
  unfolding without_doubt accepted_before accept Before.accepted_before Before.accept
  before-is zero = refl
  before-is (suc t) = simp (before-is t)

  accepted-is : (t : ℕ) → accepted (without_doubt b) t ≡ Before.accepted b t
  unfolding without_doubt accepted accept Before.accepted Before.accept
  accepted-is t = simp before-is

  pending-is : (s t : ℕ) → (without_doubt b).pending s t ≡ b.pending s t
  unfolding without_doubt
  pending-is s t = refl

  busy-is : (t : ℕ) → busy (without_doubt b) t ≡ Before.busy b t
  unfolding busy Before.busy
  busy-is t = simp (accepted-is, pending-is)

  fails-is : (t : ℕ) → fails (without_doubt b) t ≡ Before.fails b t
  unfolding without_doubt fails Before.fails
  fails-is t = simp accepted-is

  no-doubts : (t : ℕ) → doubts (without_doubt b) t ≡ false
  unfolding without_doubt doubts
  no-doubts t = some-none (suc t) _ (λ s l. and-false (accepted (without_doubt b) s))

no-bit : (i : ℕ) → bit 0 i ≡ false
no-bit i = bit_past 0 0 i (lit< tt) zero-le

module _ (c : Config) (tr : Trace) (known : Known tr) where
  -- ---- frames

  known-reset : (t : ℕ) → unknown (tr t) 0 ≡ 0
  known-reset t = known t 0 (lit< tt)

  known-P : (t : ℕ) → unknown (tr t) 1 ≡ 0
  known-P t = known t 1 (lit< tt)

  known-Q : (t : ℕ) → unknown (tr t) 2 ≡ 0
  known-Q t = known t 2 (lit< tt)

  known-R : (t : ℕ) → unknown (tr t) 3 ≡ 0
  known-R t = known t 3 (lit< tt)

  up_is : (t : ℕ) → up (tr t) ≡ Before.up (tr t)
  unfolding up Before.up
  up_is t = simp (known-reset, without-none)

  enabled_is : (t : ℕ) → enabled (tr t) ≡ Before.enabled (tr t)
  unfolding enabled Before.enabled
  enabled_is t = simp (up_is, known-reset, without-none)

  ruleset frames-known = (up_is, enabled_is, known-P, known-Q, known-R, without-none, value-zero, no-bit, and-true, and-false)

  -- ---- the checks of each family

  alive-is : (s k : ℕ) → alive c tr s k ≡ Before.alive c tr s k
  unfolding alive event Before.alive Before.event
  alive-is s k = simp frames-known

  sequence-is : sequence_checks c tr ≡ without_doubt (Before.sequence_checks c tr)
  unfolding said without_doubt sequence_checks attempt_finds attempt_tested event event_missed event_unknown Before.sequence_checks Before.attempt_tested Before.event
  sequence-is = checks-are _ _ (λ s t. simp (frames-known, alive-is)) refl

  start_is : (t : ℕ) → start_seen c tr t ≡ Before.start_seen c tr t
  unfolding start_seen Before.start_seen
  start_is t = simp frames-known

  restarts-is : (t : ℕ) → restarts c tr t ≡ Before.restarts c tr t
  unfolding restarts Before.restarts
  restarts-is t = simp start_is

  time-is : time_checks c tr ≡ without_doubt (Before.time_checks c tr)
  unfolding said without_doubt time_checks window_finds window_pending test_missed test_unknown Before.time_checks Before.window_pending
  time-is = checks-are _ _ (λ s t. simp (frames-known, start_is, restarts-is)) refl

  transition-is : transition_checks c tr ≡ without_doubt (Before.transition_checks c tr)
  unfolding said without_doubt transition_checks in_start_state stored_check Before.transition_checks
  transition-is = checks-are _ _ (λ s t. simp frames-known) refl

  pends-is : (s t : ℕ) → trigger_pending c tr s t ≡ Before.trigger_pending c tr s t
  unfolding trigger_pending Before.trigger_pending
  pends-is s t = simp up_is

  window-is : (s t : ℕ) → in_window c tr s t ≡ Before.in_window c tr s t
  unfolding in_window Before.in_window
  window-is s t = simp pends-is

  compared_is : (s t : ℕ) → compared c tr s t ≡ Before.tested c tr s t
  unfolding compared tested Before.tested
  compared_is s t = simp (frames-known, window-is)

  has-is : (s t : ℕ) → has_reference c tr s t ≡ Before.has_reference c tr s t
  unfolding has_reference Before.has_reference
  has-is s t = ap (some t) (fun_ext (compared_is s))

  reference-is : (s t : ℕ) → reference c tr s t ≡ Before.reference c tr s t
  unfolding reference Before.reference
  reference-is s t = ap₂ (at_first t) (fun_ext (compared_is s)) (simp frames-known)

  value_is : value_checks c tr ≡ without_doubt (Before.value_checks c tr)
  unfolding said without_doubt value_checks trigger_checks trigger_seen Before.value_checks Before.trigger_checks
  value_is = checks-are _ _ (λ s t. simp (frames-known, pends-is, compared_is)) refl

  stability-is : stability_checks c tr ≡ without_doubt (Before.stability_checks c tr)
  unfolding said without_doubt stability_checks trigger_checks trigger_seen Before.stability_checks Before.trigger_checks
  stability-is = checks-are _ _ (λ s t. simp (frames-known, pends-is, compared_is, has-is, reference-is)) refl

  ruleset checks-known = (sequence-is, time-is, transition-is, value_is, stability-is, accepted-is, pending-is, busy-is, fails-is, no-doubts)

  -- ---- rows and words

  marks-are : (g : Family) (t : ℕ) → row_of (marks_of g c tr t) ≡ Before.row_of (Before.marks_of g c tr t)
  unfolding row_of marks_of most_seen window_reset window_opened illegal_start window_closed window_ends Before.row_of Before.marks_of
  marks-are sequence t = simp (checks-known, alive-is, add-zero)
  marks-are time t = simp (checks-known, start_is, restarts-is, add-zero)
  marks-are transition t = simp (checks-known, add-zero)
  marks-are value t = simp (checks-known, window-is, add-zero)
  marks-are stability t = simp (checks-known, window-is, add-zero)
  marks-are none t = refl

  open_is : (g : Family) (t : ℕ) → open_of g c tr t ≡ Before.open_of g c tr t
  unfolding open_of attempts cycles_left stored value_left stability_left left_with Before.open_of Before.left_with
  open_is sequence t = simp (checks-known, alive-is)
  open_is time t = simp checks-known
  open_is transition t = simp (checks-known, frames-known)
  open_is value t = simp (checks-known, pends-is)
  open_is stability t = simp (checks-known, pends-is, has-is, reference-is)
  open_is none t = refl

  going-is : (t : ℕ) → going_row c tr t ≡ Before.going_row c tr t
  unfolding going_row Before.going_row
  going-is t = simp (up_is, marks-are)

  stopped-is : (t : ℕ) → stopped_before c tr t ≡ Before.stopped_before c tr t
  unfolding stopped_before failing Before.stopped_before Before.failing
  stopped-is t = simp going-is

  row_is : (t : ℕ) → row c tr t ≡ Before.row c tr t
  unfolding row Before.row
  row_is t = simp (stopped-is, going-is)

  word_is : (t : ℕ) → word c tr t ≡ Before.word c tr t
  unfolding word going_word Before.word Before.going_word
  word_is t = simp (stopped-is, up_is, open_is)

pub known-as-before : (c : Config) (tr : Trace) → Known tr → AsBefore c tr
known-as-before c tr known = record { rows = row_is c tr known; words = word_is c tr known }
