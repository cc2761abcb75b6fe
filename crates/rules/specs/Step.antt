-- One step: the marks and the next open word, from the configuration, the open word and the frame alone. That these are the row and word of the rules
-- is `step-is-rules` of `proofs/Claims.antt`. Assumes nothing.
use Rattle.std.specs.Prelude.{ℕ, zero, suc, ◌+◌, ◌-◌, ◌/◌, ◌%◌, ◌^◌, ◌≡◌, Bool, false, not, ◌&&◌, ◌||◌, cond, leb, ltb, eqb}
use Rattle.bits.specs.Bits.{bit, some, number}
use Rattle.rules.specs.declared.config.Config.{Config}
use Rattle.rules.specs.declared.frame.Frame.{Frame}
use Rattle.rules.specs.Config.{Family, family, fatal}
use Rattle.rules.specs.Config.Family.{sequence, time, transition, value, stability, none}
use Rattle.rules.specs.Frame.{up, enabled, P, Q, R, known_p, known_r}
use Rattle.rules.specs.Sequence.{event_missed, event_unknown}
use Rattle.rules.specs.Time.{test_missed, test_unknown}
use Rattle.rules.specs.Transition.{in_start_state}
use Rattle.rules.specs.Trigger.{with_reference}
use Rattle.rules.specs.Rules.{Marks, check_marks, window_marks, row_of, failing, stopped_word}

-- the parts of an open word of kind 8: the cycles left, whether it holds a reference, and the reference
abbrev pub left_in : ℕ → ℕ
left_in w = w % 2 ^ 16

abbrev pub holds : ℕ → Bool
holds w = leb (2 ^ 48) w

abbrev pub reference_in : ℕ → ℕ
reference_in w = (w - 2 ^ 48) / 2 ^ 16

module _ (c : Config) (w : ℕ) (f : Frame) where
  -- ---- cycle sequence: bit j of the open word is an attempt that is now tested on event bit n−2−j

  -- the start that is accepted: of kind 2 only where nothing is being tested
  unfoldable pub starts_attempt : Bool
  starts_attempt = bit (P c f) (c.n - 1) && not (eqb c.kind 2 && not (eqb w 0))

  -- bit j of the next open word: the new attempt, and each older attempt that had its event
  unfoldable pub attempt : ℕ → Bool
  attempt zero = starts_attempt
  attempt (suc j) = bit w j && bit (P c f) (c.n - 1 - suc j)

  -- an attempt whose event is found to be so, known to be 0 or unknown: kind 0 looks at the oldest alone
  unfoldable pub attempt_on : (Frame → ℕ → Bool) → Bool
  attempt_on found = cond (eqb c.kind 0) (bit w (c.n - 2) && found f 0) (some (c.n - 1) (λ j. bit w j && found f (c.n - 1 - suc j)))

  -- ---- time: the open word is the number of pending cycles left, this one included

  unfoldable pub start : Bool
  start = eqb (P c f) 1

  unfoldable pub pends : Bool
  pends = ltb 0 w

  unfoldable pub restart : Bool
  restart = eqb c.kind 4 && start && pends

  unfoldable pub left : ℕ
  left = cond (start && (not pends || eqb c.kind 4)) c.n (w - 1)

  -- ---- after a trigger: `before` is the number of cycles left to s+max, this one included

  -- a trigger is accepted
  unfoldable pub triggered : Bool
  triggered = enabled f && eqb (Q c f) 1 && not pends

  -- this cycle is in a window, and so many cycles are left after it
  unfoldable pub opens : Bool
  opens = pends || triggered

  unfoldable pub after : ℕ → ℕ
  after before = cond triggered c.n (before - 1)

  -- it is tested: from s+min on at most max−min cycles are left
  unfoldable pub tests : ℕ → Bool
  tests before = enabled f && opens && leb (after before + c.min) c.n

  -- and its value is compared, where it is known
  unfoldable pub compares : ℕ → Bool
  compares before = tests before && known_p c f

  unfoldable pub tracked_marks : ℕ → Bool → Marks
  tracked_marks before wrong =
      window_marks (compares before && wrong) triggered (opens && eqb (after before) 0) (tests before && not (known_p c f))

  -- what a window of kind 8 holds after this cycle
  unfoldable pub held : ℕ
  held = cond (holds w) (with_reference (reference_in w)) (cond (compares (left_in w)) (with_reference (P c f)) 0)

  -- ---- all kinds

  unfoldable pub step_marks_of : Family → Marks
  step_marks_of sequence =
      check_marks (attempt_on (event_missed c)) (cond (eqb c.kind 0) (attempt (c.n - 2)) starts_attempt) (attempt_on (event_unknown c))
  step_marks_of time = record {
    failure = pends && test_missed c f && not restart;
    illegal = eqb c.kind 5 && start && pends;
    opened = (start && not pends) || restart;
    closed = eqb w 1 && not restart;
    restarted = restart;
    unknown = pends && test_unknown c f && not restart;
  }
  step_marks_of transition =
      check_marks (pends && (known_p c f && not (eqb (P c f) (w - 2 ^ 32)))) (in_start_state c f) ((pends && not (known_p c f)) || (in_start_state c f && not (known_r c f)))
  step_marks_of value = tracked_marks w (not (eqb (P c f) c.value))
  step_marks_of stability = tracked_marks (left_in w) (holds w && not (eqb (P c f) (reference_in w)))
  step_marks_of none = check_marks false false false

  unfoldable pub step_open_of : Family → ℕ
  step_open_of sequence = number (c.n - 1) attempt
  step_open_of time = left
  step_open_of transition = cond (in_start_state c f && known_r c f) (2 ^ 32 + R c f) 0
  step_open_of value = after w
  step_open_of stability = cond (eqb (after (left_in w)) 0) 0 (after (left_in w) + held)
  step_open_of none = 0

  -- the row and the next open word of one step of a checker that goes on
  unfoldable pub going_step_row : ℕ
  going_step_row = cond (up f) (row_of (step_marks_of (family c.kind))) 0

  unfoldable pub going_step_word : ℕ
  going_step_word = cond (up f) (step_open_of (family c.kind)) 0

  -- of any checker: from 2^63 a fatal one has row 0 and 2^63, and it comes there by a row with mark 1 or 2
  unfoldable pub step_row : ℕ
  step_row = cond (fatal c && eqb w stopped_word) 0 going_step_row

  unfoldable pub step_word : ℕ
  step_word = cond (fatal c && (eqb w stopped_word || failing going_step_row)) stopped_word going_step_word

-- the row and the next word of a step out of reset, for the family's rules
pub record StepsTo (k : Family) (c : Config) (w : ℕ) (f : Frame) (row next : ℕ) : Type 0 where
  pub row_is : row ≡ row_of (step_marks_of c w f k)
  pub word_is : next ≡ step_open_of c w f k

-- the row and the next word of any step
pub record Steps (c : Config) (w : ℕ) (f : Frame) (row next : ℕ) : Type 0 where
  pub row_is : row ≡ step_row c w f
  pub word_is : next ≡ step_word c w f
