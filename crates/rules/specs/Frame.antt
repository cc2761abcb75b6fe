-- A frame and the values of a checker's ports in it, from document 01, "Wires, buses and frames", and document 02, §4 and §8. Assumes nothing.
use Rattle.std.specs.Prelude.{ℕ, ◌+◌, ◌^◌, ◌<◌, ◌≡◌, Bool, ◌&&◌, eqb, length, get_or}
use Rattle.bits.specs.Bits.{bit, without}
use Rattle.bus.specs.Range.{value_of}
use Rattle.rules.specs.declared.config.Config.{Config}
use Rattle.rules.specs.declared.frame.Frame.{Frame}

-- "reset, P, Q, R", and "four more words after them": so many words a frame has
abbrev pub frame_words : ℕ
frame_words = 8

abbrev pub frame_word : Frame → ℕ → ℕ
frame_word f i = get_or f.samples i 0

-- a frame as a lent trace has it: words of 32 bits
pub record Proper (f : Frame) : Type 0 where
  pub words : length f.samples ≡ frame_words
  pub small : (i : ℕ) → frame_word f i < 2 ^ 32

-- "one per existing word in order, where a 1 means that the wire is x or z": the unknown wires of word i
abbrev pub unknown : Frame → ℕ → ℕ
unknown f i = frame_word f (4 + i)

-- "Value bits under a 1 are ignored": the wires of word i that are known to be 1. So an unknown wire reads as 0 here, and what else an unknown bit does, the
-- rules say by `unknown`.
abbrev pub sample : Frame → ℕ → ℕ
sample f i = without (frame_word f i) (unknown f i)

-- "Reset_n is bit 0 of the first word; other bits there are ignored." Whether the frame is out of reset: "Unknown reset counts as reset".
unfoldable pub up : Frame → Bool
up f = bit (sample f 0) 0

-- "Enable is reset word bit 1." Whether the frame is enabled, which one in reset is not: "unknown enable as 0".
unfoldable pub enabled : Frame → Bool
enabled f = up f && bit (sample f 0) 1

-- the values of the ports P, Q and R, with 0 for an unknown bit
abbrev pub P : Config → Frame → ℕ
P c f = value_of c.p (sample f 1)

abbrev pub Q : Config → Frame → ℕ
Q c f = value_of c.q (sample f 2)

abbrev pub R : Config → Frame → ℕ
R c f = value_of c.r (sample f 3)

-- their unknown bits, as a value under the same declaration: a wire outside the range does not count
abbrev pub unknown_p : Config → Frame → ℕ
unknown_p c f = value_of c.p (unknown f 1)

abbrev pub unknown_q : Config → Frame → ℕ
unknown_q c f = value_of c.q (unknown f 2)

abbrev pub unknown_r : Config → Frame → ℕ
unknown_r c f = value_of c.r (unknown f 3)

-- whether every bit of the port is known
abbrev pub known_p : Config → Frame → Bool
known_p c f = eqb (unknown_p c f) 0

abbrev pub known_q : Config → Frame → Bool
known_q c f = eqb (unknown_q c f) 0

abbrev pub known_r : Config → Frame → Bool
known_r c f = eqb (unknown_r c f) 0

-- A trace gives the frame of each cycle. "Cycles count from 0." A trace that ends is one whose later frames nobody asks for.
abbrev pub Trace : Type 0
Trace = ℕ → Frame
