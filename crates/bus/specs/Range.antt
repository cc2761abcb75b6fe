-- The value of a port under its declared range, from document 01, "Wires, buses and frames". Assumes nothing.
use Rattle.std.specs.Prelude.{ℕ, suc, ◌+◌, ◌-◌, Bool, ◌&&◌, cond, leb}
use Rattle.bits.specs.Bits.{bit, number}
use Rattle.bus.specs.declared.range.Range.{Range}

-- "A port has a declared range left:right, each 0 to 31"
unfoldable pub within : Range → Bool
within r = leb r.left 31 && leb r.right 31

-- "its width is the distance plus 1"
unfoldable pub width : Range → ℕ
width r = suc (cond (leb r.right r.left) (r.left - r.right) (r.right - r.left))

-- "Bit k of the value is wire right+k when left ≥ right, and wire right−k otherwise."
unfoldable pub wire_of : Range → ℕ → ℕ
wire_of r k = cond (leb r.right r.left) (r.right + k) (r.right - k)

-- The value: as many bits as the port is wide. "Wires outside the range are ignored."
unfoldable pub value_of : Range → ℕ → ℕ
value_of r wires = number (width r) (λ k. bit wires (wire_of r k))
