-- What document 02, §11, says of a dump in pieces: `EveryCut`, `EachPiece` and `Over`. They are about the definitions that the contracts of the calls have, and are proved by
-- `every-cut`, `each-piece` and `over` of `proofs/Cutting.antt`, the first two over the list of pieces. Assumes nothing.
use Rattle.std.specs.Prelude.{◌≡◌, List, [], ◌∷◌, ◌++◌, ℕ, ◌^◌, ◌-◌, ◌≤◌, length}
use Rattle.dump.specs.Load.{Answer, load, filled}
use Rattle.dump_gathered.specs.Gathered.{Bytes}
use Rattle.dump_load.specs.declared.answer.Loaded.{Loaded}
use Rattle.dump_state.specs.declared.state.State.{State}
use Rattle.dump_state.specs.Pieces.{begun, Given, again, piece_of, end_of}
use Rattle.dump_cut.specs.SoFar.{load_so_far}

-- ---- "for every way of cutting a dump"

-- the pieces put together
unfoldable pub joined : List (List ℕ) → List ℕ
joined [] = []
joined (piece ∷ pieces) = piece ++ joined pieces

-- before the first call: the state that `begin` gives, and the frames that are lent to each call
abbrev pub before : List ℕ → List ℕ → Given
before wires lent = record { read = again (begun wires); frames = lent }

-- "Given the last state and the same frames each time": a call for each piece, and what the last one gives
unfoldable pub through : Given → List (List ℕ) → Given
through g [] = g
through g (piece ∷ pieces) = through (piece_of g.read.state piece g.frames) pieces

-- and the end
abbrev pub ends : Given → Given
ends g = end_of g.read.state g.frames

-- "the frames, their count, the refusal, its line and its identifier are those of the uncut dump"
pub record Uncut (whole : Answer) (lent : List ℕ) (g : Given) : Type 0 where
  pub frames_are : g.frames ≡ filled whole.frames lent
  pub count_is : g.read.answer.frames ≡ length whole.frames
  pub refusal_is : g.read.answer.refusal ≡ whole.refusal
  pub line_is : g.read.answer.line ≡ whole.line
  pub identifier_is : g.read.answer.identifier ≡ whole.identifier

-- Pieces are bytes. A dump of 2^64 − 1 bytes or more is left out: with as many lines it would have more than the answer can count. Two slices together are shorter.
abbrev pub EveryCut : Type 0
EveryCut =
    (dump wires lent : List ℕ) (pieces : List (List ℕ)) → joined pieces ≡ dump → Bytes dump → length dump ≤ 2 ^ 64 - 2
    → Uncut (load dump wires lent) lent (ends (through (before wires lent) pieces))

-- before the end: the last piece gives what the words say that have ended in all of them together
abbrev pub EachPiece : Type 0
EachPiece =
    (dump wires lent piece : List ℕ) (pieces : List (List ℕ)) → joined (piece ∷ pieces) ≡ dump → Bytes dump → length dump ≤ 2 ^ 64 - 2
    → Uncut (load_so_far dump wires lent) lent (through (before wires lent) (piece ∷ pieces))

-- ---- "A piece or an end after an accepted end is refusal 17; after any other refusal each further call gives that refusal again. Both alter nothing."

-- each further call on this state, with any bytes and any frames, gives this answer, the state and the frames as they were
pub record Stands (s : State) (answer : Loaded) : Type 0 where
  pub further_piece : (bytes frames : List ℕ) → piece_of s bytes frames ≡ record { read = record { state = s; answer = answer }; frames = frames }
  pub further_end : (frames : List ℕ) → end_of s frames ≡ record { read = record { state = s; answer = answer }; frames = frames }

-- of any state
pub record Over : Type 0 where
  pub refused_piece : (s : State) (bytes frames : List ℕ) → ((piece_of s bytes frames).read.answer.refusal ≡ 0 → ⊥) → Stands (piece_of s bytes frames).read.state (piece_of s bytes frames).read.answer
  pub refused_end : (s : State) (frames : List ℕ) → ((end_of s frames).read.answer.refusal ≡ 0 → ⊥) → Stands (end_of s frames).read.state (end_of s frames).read.answer
  pub accepted_end : (s : State) (frames : List ℕ) → (end_of s frames).read.answer.refusal ≡ 0 → Stands (end_of s frames).read.state (record { refusal = 17; frames = (end_of s frames).read.answer.frames; line = 0; identifier = 0 })
