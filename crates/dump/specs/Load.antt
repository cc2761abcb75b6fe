-- Loading a dump: the words of the whole text read in order, its end, and what the call answers, from document 02, §1. Assumes nothing.
use Rattle.std.specs.Prelude.{Bool, true, false, cond, not, ◌&&◌, ◌||◌, List, [], ◌∷◌, ◌++◌, ℕ, ◌+◌, ◌-◌, ◌/◌, eqb, leb, length, drop}
use Rattle.trace.specs.Traces.{trace_fits}
use Rattle.dump.specs.Text.{Word, words, line_count, one_of, is_end}
use Rattle.dump.specs.State.{State, at_start, goto, refuse, refused, expect, command, comment, scale, unit, command_end, scope_type, scope_name, var_type, width, var_code, var_name, range, var_end, last_end, change, vector_code, real_code, later_comment}
use Rattle.dump.specs.Declarations.{units, scope_types, on_command, on_scale, on_scope_name, on_var_type, on_width, on_var_code, on_var_name, on_range, on_var_end}
use Rattle.dump.specs.Connections.{Pair, pairs}
use Rattle.dump.specs.Changes.{closing, on_change, on_vector_code, on_real_code, on_last_end}

-- "until `$end`"
abbrev pub on_comment : State → List ℕ → ℕ → State
on_comment s w next = cond (is_end w) (goto s next) s

-- where the reader is between two words, and the line that a refusal names
pub record Reading : Type 0 where
  pub state : State
  pub line : ℕ

-- what the call answers
pub record Answer : Type 0 where
  pub refusal : ℕ
  pub line : ℕ
  pub identifier : ℕ
  pub frames : List (List ℕ)

module _ (table : List Pair) (room : ℕ) where
  -- ONE WORD, by what is due; what is refused stays refused: "The first place decides"
  unfoldable pub step : State → List ℕ → State
  step s w =
      cond (eqb s.place change) (on_change table room s w)
      (cond (eqb s.place vector_code) (on_vector_code table room s w)
      (cond (eqb s.place real_code) (on_real_code table room s w)
      (cond (eqb s.place later_comment) (on_comment s w change)
      (cond (eqb s.place command) (on_command s w)
      (cond (eqb s.place comment) (on_comment s w command)
      (cond (eqb s.place scale) (on_scale s w)
      (cond (eqb s.place unit) (expect s (one_of units w) command_end)
      (cond (eqb s.place command_end) (expect s (is_end w) command)
      (cond (eqb s.place scope_type) (expect s (one_of scope_types w) scope_name)
      (cond (eqb s.place scope_name) (on_scope_name s w)
      (cond (eqb s.place var_type) (on_var_type s w)
      (cond (eqb s.place width) (on_width s w)
      (cond (eqb s.place var_code) (on_var_code s w)
      (cond (eqb s.place var_name) (on_var_name s w)
      (cond (eqb s.place range) (on_range s w)
      (cond (eqb s.place var_end) (on_var_end s w)
      (cond (eqb s.place last_end) (on_last_end table room s w)
      s)))))))))))))))))

  -- a word, and its line where it shows the refusal
  unfoldable pub read_word : Reading → Word → Reading
  read_word r w = record { state = step r.state w.text; line = cond (refused r.state) r.line w.line }

  unfoldable pub read_words : Reading → List Word → Reading
  read_words r [] = r
  read_words r (w ∷ ws) = read_words (read_word r w) ws

  -- "The end closes only where the text is complete: declarations ended, no command or change begun and unfinished."
  unfoldable pub finish : State → State
  finish s = cond (refused s) s (cond (eqb s.place change && not s.changed.dumping) (closing table room s (λ z. z)) (refuse s 10))

  abbrev pub answer_of : ℕ → Reading → State → Answer
  answer_of count r s =
      record { refusal = cond (refused s) (s.place - 100) 0; line = cond (refused s) (cond (refused r.state) r.line count) 0; identifier = cond (refused s) s.identifier 0; frames = s.changed.frames }

  -- the whole text: "at the end it is the line count"
  unfoldable pub reading : List ℕ → Reading
  reading dump = read_words (record { state = at_start; line = 0 }) (words 1 dump)

  unfoldable pub read : List ℕ → Answer
  read dump = answer_of (line_count dump) (reading dump) (finish (reading dump).state)

abbrev pub refused_with : ℕ → Answer
refused_with r = record { refusal = r; line = 0; identifier = 0; frames = [] }

-- THE CALL: "The frames lent are a trace: not a multiple of 8 words, or more than 65,536 frames, is 4; a table that is not 258 words is 5; both before anything is read."
unfoldable pub load : List ℕ → List ℕ → List ℕ → Answer
load dump wires lent = cond (trace_fits lent) (cond (eqb (length wires) 258) (read (pairs wires) (length lent / 8) dump) (refused_with 5)) (refused_with 4)

unfoldable pub joined_frames : List (List ℕ) → List ℕ
joined_frames [] = []
joined_frames (f ∷ fs) = f ++ joined_frames fs

-- "Frames sampled before it stay written, the rest is untouched"
unfoldable pub filled : List (List ℕ) → List ℕ → List ℕ
filled fs lent = joined_frames fs ++ drop (length (joined_frames fs)) lent
