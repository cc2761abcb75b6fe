-- `bus::range::Range::wire` meets its contract: the shifted word's lowest digit is the wire `left`, the only one. Assumes nothing.
use native.Mathlib.Omega.{arith}
use Rattle.bits.specs.Bits.{bit}
use Rattle.bus.proofs.Ranges.{left-low, value-wire}
use Rattle.bus.proofs.range.Range.wire.Goals as goal

pub overflow_shr-result : goal.overflow_shr-result
overflow_shr-result c = omega (arith, left-low c.args.self c.requires.0)

pub returns : goal.returns
unfolding bit
returns c = let at = c.before in value-wire at.args.self at.args.wires at.requires.1
