-- One step on a word in lent bytes, from document 01, "What the viewer calls" and "Refusal numbers". Assumes nothing.
use Rattle.std.specs.Prelude.{ℕ, ◌+◌, ◌*◌, ◌≡◌, cond, List, eqb, length, Result, Ok, Err}
use Rattle.rules.specs.declared.config.Config.{Config}
use Rattle.rules.specs.declared.frame.Frame.{Frame}
use Rattle.rules.specs.declared.refusal.Refusal.{Refusal}
use Rattle.rules.specs.Config.{config_refusal}
use Rattle.rules.specs.Refusals.{number_of}
use Rattle.rules.specs.Step.{step_row, step_word}
use Rattle.rules.specs.Possible.{possible}
use Rattle.word_bytes.specs.Bytes.{word_of, bytes_of}

-- 1, 2 and 3 of the configuration, 5 for a slice that is not 8 bytes long, 7 for a word that is not possible: "by number"
unfoldable pub step_refusal : Config → List ℕ → ℕ
step_refusal c bytes =
    cond (eqb (config_refusal c) 0) (cond (eqb (length bytes) 8) (cond (possible c (word_of bytes)) 0 7) 5) (config_refusal c)

-- the row, or 256 times the refusal number
abbrev pub answer_of : Result ℕ Refusal → ℕ
answer_of (Ok row) = row
answer_of (Err refusal) = 256 * number_of refusal

-- "it writes the next word there and answers 256 times the refusal number plus the row"; "A refusal writes nothing; every other number answered is 0"
pub record ByteStep (c : Config) (f : Frame) (before after : List ℕ) (answer : ℕ) : Type 0 where
  pub answer_is : answer ≡ 256 * step_refusal c before + cond (eqb (step_refusal c before) 0) (step_row c (word_of before) f) 0
  pub bytes_are : after ≡ cond (eqb (step_refusal c before) 0) (bytes_of 8 (step_word c (word_of before) f)) before
