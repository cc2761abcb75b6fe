-- Frames in whose reset words bits are set. A frame has eight words, and the first is the reset word. Assumes nothing.
use Rattle.std.specs.Prelude.{ℕ, zero, suc, ◌+◌, ◌*◌, List, get_or, set}
use Rattle.std.specs.Int.Bits.{bit_or}

-- the bits set in the reset words of so many frames, from frame t on
unfoldable pub with_bits : List ℕ → ℕ → ℕ → ℕ → List ℕ
with_bits frames t bits zero = frames
with_bits frames t bits (suc m) = with_bits (set frames (8 * t) (bit_or (get_or frames (8 * t) 0) bits)) (t + 1) bits m
