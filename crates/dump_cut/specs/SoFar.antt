-- What a piece answers before the end, over the words that have ended. Assumes nothing.
use Rattle.std.specs.Prelude.{◌≡◌, Bool, false, cond, ◌||◌, List, [], ◌∷◌, ◌++◌, ℕ, ◌-◌, ◌/◌, eqb, length}
use Rattle.trace.specs.Traces.{trace_fits}
use Rattle.dump.specs.Text.{blank, bytes}
use Rattle.dump.specs.State.{refused}
use Rattle.dump.specs.Connections.{pairs}
use Rattle.dump.specs.Load.{Reading, Answer, reading, refused_with}
use Rattle.dump.specs.Worked.{zeros, table, done, no, frame, declarations, bus}

-- whether there is white space in a text
unfoldable pub spaced : List ℕ → Bool
spaced [] = false
spaced (b ∷ bs) = blank b || spaced bs

-- "A word is read when the white space behind it, or the end, arrives": the text up to its last white space
unfoldable pub arrived : List ℕ → List ℕ
arrived [] = []
arrived (b ∷ bs) = cond (spaced (b ∷ bs)) (b ∷ arrived bs) []

-- "until then it refuses and closes nothing. An accepted piece answers 0, the count so far, 0 and 0."
abbrev pub so_far : Reading → Answer
so_far r =
    record { refusal = cond (refused r.state) (r.state.place - 100) 0; line = cond (refused r.state) r.line 0; identifier = cond (refused r.state) r.state.identifier 0; frames = r.state.changed.frames }

unfoldable pub load_so_far : List ℕ → List ℕ → List ℕ → Answer
load_so_far dump wires lent = cond (trace_fits lent) (cond (eqb (length wires) 258) (so_far (reading (pairs wires) (length lent / 8) (arrived dump))) (refused_with 5)) (refused_with 4)

-- a text of which more may come, with room for `room` words of frames
unfoldable pub unended : ℕ → List ℕ → Answer
unended room text = load_so_far text (table bus) (zeros room)

-- Worked by hand: the bytes behind the last white space are nothing yet.
pub record Worked : Type 0 where
  -- The clock rises at stamp 1, which the word `#2` closes when it has ended, and not before.
  pub at_open_stamp : unended 8 (declarations ++ bytes "#0 0! b101 d #1 1! #2") ≡ done []
  pub closed_stamp : unended 8 (declarations ++ bytes "#0 0! b101 d #1 1! #2\n") ≡ done (frame 0 5 0 0 0 0 ∷ [])
  -- `#1` may become `#10`: only where it has ended does it go back. The frame stays.
  pub at_open_word : unended 8 (declarations ++ bytes "#0 0! b101 d #1 1!\n#2\n#1") ≡ done (frame 0 5 0 0 0 0 ∷ [])
  pub ended_word : unended 8 (declarations ++ bytes "#0 0! b101 d #1 1!\n#2\n#1 #3") ≡ no 14 6 (frame 0 5 0 0 0 0 ∷ [])
  -- No end is near: a text that is cut in its declarations, or has none, is not refused.
  pub unfinished : unended 8 (bytes "$var wire 1 ! clk $en") ≡ done []
  pub empty : unended 8 [] ≡ done []
  -- "Then 4, then 5"
  pub lengths : unended 7 [] ≡ no 4 0 []
