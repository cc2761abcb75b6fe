-- A dump that arrives in pieces, from document 02, §11: what each call gives, for any state whatever. Assumes nothing.
use Rattle.std.specs.Prelude.{◌≡◌, cond, List, [], ℕ, eqb, length, replicate}
use Rattle.dump_reader.specs.Machine.{All, feed, finish}
use Rattle.dump_load.specs.declared.answer.Loaded.{Loaded}
use Rattle.dump_load.specs.Loading.{fits, refused_with, answered, first_reader, table_from}
use Rattle.dump_state.specs.declared.state.State.{State}
use Rattle.dump_state.specs.declared.state.Read.{Read}

-- BEGIN: "the state is made from the table, whatever its length"
abbrev pub first_state : ℕ → List ℕ → State
first_state table store = record { refusal = 0; table = table; frames = 0; line = 0; identifier = 0; reader = first_reader; store = store; digits = replicate 4096 0 }

unfoldable pub begun : List ℕ → State
begun wires = cond (eqb (length wires) 258) (first_state 0 (table_from (replicate 8468 0) wires 0 258)) (first_state 1 (replicate 8468 0))

-- WHAT A CALL GIVES: the state and the answer, and the frames
pub record Given : Type 0 where
  pub read : Read
  pub frames : List ℕ

-- the reader of a state with the frames that are lent to it
abbrev pub held : State → List ℕ → All
held s frames = record { reader = s.reader; store = s.store; digits = s.digits; frames = frames }

-- the state behind what was read, with the answer that stands from now on
abbrev pub behind : State → All → Loaded → State
behind s a answer =
    record { refusal = answer.refusal; table = s.table; frames = answer.frames; line = answer.line; identifier = answer.identifier; reader = a.reader; store = a.store; digits = a.digits }

-- a state with another answer that stands
abbrev pub answering : State → Loaded → State
answering s answer =
    record { refusal = answer.refusal; table = s.table; frames = answer.frames; line = answer.line; identifier = answer.identifier; reader = s.reader; store = s.store; digits = s.digits }

-- THE TESTS. "A call tests first whether the dump is over or refused": the answer that stands is given again, and alters neither state nor frames.
abbrev pub standing : State → Loaded
standing s = record { refusal = s.refusal; frames = s.frames; line = s.line; identifier = s.identifier }

abbrev pub again : State → Read
again s = record { state = s; answer = standing s }

-- "Then 4, then 5"
unfoldable pub length_refusal : ℕ → ℕ → ℕ
length_refusal table words = cond (fits words) (cond (eqb table 0) 0 5) 4

-- "refusals like any other, so once given, each further call gives them again (count, line and identifier 0)"
abbrev pub refusing : State → ℕ → Read
refusing s refusal = record { state = behind s (held s []) (refused_with refusal); answer = refused_with refusal }

-- in this order, then what the call reads
unfoldable pub tested : State → List ℕ → Given → Given
tested s frames reads =
    cond (eqb s.refusal 0)
    (cond (eqb (length_refusal s.table (length frames)) 0) reads (record { read = refusing s (length_refusal s.table (length frames)); frames = frames }))
    (record { read = again s; frames = frames })

-- A PIECE: its bytes one by one behind those of all pieces before; a refusal stands
abbrev pub fed_state : State → All → Read
fed_state s a = record { state = behind s a (answered a.reader); answer = answered a.reader }

unfoldable pub piece_of : State → List ℕ → List ℕ → Given
piece_of s bytes frames = tested s frames (record { read = fed_state s (feed (held s frames) bytes); frames = (feed (held s frames) bytes).frames })

-- THE END: "after an accepted end a piece or an end is 17, line and identifier 0, the count as it was"
unfoldable pub behind_end : Loaded → Loaded
behind_end answer = cond (eqb answer.refusal 0) (record { refusal = 17; frames = answer.frames; line = 0; identifier = 0 }) answer

abbrev pub ended_state : State → All → Read
ended_state s a = record { state = behind s a (behind_end (answered a.reader)); answer = answered a.reader }

unfoldable pub end_of : State → List ℕ → Given
end_of s frames = tested s frames (record { read = ended_state s (finish (held s frames)); frames = (finish (held s frames)).frames })

-- "both alter neither state nor frames": of any call, where an answer stands
pub record Repeated (s : State) (r : Read) (before after : List ℕ) : Type 0 where
  pub same_read : (s.refusal ≡ 0 → ⊥) → r ≡ record { state = s; answer = standing s }
  pub same_frames : (s.refusal ≡ 0 → ⊥) → after ≡ before
