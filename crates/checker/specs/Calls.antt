-- What one step and the open count answer, from document 01, "What the viewer calls" and "Refusal numbers". Assumes nothing.
use Rattle.std.specs.Prelude.{ℕ, ◌≡◌, cond, eqb, Result, Ok, Err}
use Rattle.rules.specs.declared.config.Config.{Config}
use Rattle.rules.specs.declared.frame.Frame.{Frame}
use Rattle.rules.specs.declared.refusal.Refusal.{Refusal}
use Rattle.checker.specs.declared.monitor.Monitor.{Monitor}
use Rattle.checker.specs.declared.monitor.Stepped.{Stepped}
use Rattle.rules.specs.Step.{step_row, step_word}
use Rattle.rules.specs.Possible.{open_count, word_refusal}

-- the row of a step's answer; refused: "every other number answered is 0"
abbrev pub row_answered : Result Stepped Refusal → ℕ
row_answered (Ok stepped) = stepped.row
row_answered (Err _) = 0

-- the monitor that a step of `was` leaves; refused: as it was
abbrev pub monitor_left : Monitor → Result Stepped Refusal → Monitor
monitor_left was (Ok stepped) = stepped.monitor
monitor_left was (Err _) = was

-- "One step: configuration, open word and frame by value; gives row and next word." Refused: "every other number answered is 0, but one step hands
-- back its word".
pub record StepAnswer (c : Config) (w : ℕ) (f : Frame) (refusal row : ℕ) (next : Monitor) : Type 0 where
  pub refusal_is : refusal ≡ word_refusal c w
  pub row_is : row ≡ cond (eqb (word_refusal c w) 0) (step_row c w f) 0
  pub word_is : next.word ≡ cond (eqb (word_refusal c w) 0) (step_word c w f) w
  pub config_is : next.config ≡ c

-- the count of an answer; refused: "every other number answered is 0"
abbrev pub count_of : Result ℕ Refusal → ℕ
count_of (Ok count) = count
count_of (Err _) = 0

-- "Open count of a possible word"
pub record CountAnswer (c : Config) (w refusal count : ℕ) : Type 0 where
  pub refusal_is : refusal ≡ word_refusal c w
  pub count_is : count ≡ cond (eqb (word_refusal c w) 0) (open_count c w) 0
