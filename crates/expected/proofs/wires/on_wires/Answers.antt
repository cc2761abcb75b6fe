-- `expected::wires::on_wires` meets its contract. Assumes nothing.
use Prim.Native.Nat.{◌^◌, ◌≤◌}
use native.Mathlib.Nat.{zero-mul}
use native.Mathlib.Omega.{arith}
use lib.Pow.{pow_pos, pow_mono}
use Rattle.bus.specs.Range.{width}
use Rattle.bus.proofs.Ranges.{right-low, width-le}
use Rattle.expected.proofs.Placed.{placed}
use Rattle.expected.proofs.wires.on_wires.Goals as goal

pub low_ones-requires : goal.low_ones-requires
low_ones-requires c = omega (arith, c.width.ensures, width-le c.args.port c.requires.0)

pub overflow_cast-result : goal.overflow_cast-result
overflow_cast-result c =
    let narrow : c.width.result ≤ 32 = omega (arith, c.width.ensures, width-le c.args.port c.requires.0) in
    omega (arith, c.low_ones.ensures, pow_mono narrow)

pub overflow_shl-result : goal.overflow_shl-result
overflow_shl-result c = omega (arith, right-low c.args.port c.requires.0)

pub overflow_shl-result-2 : goal.overflow_shl-result-2
overflow_shl-result-2 c = omega (arith, right-low c.args.port c.requires.0)

pub returns : goal.returns
returns c =
    let p = c.args.port in
    let ones = rw c.width.ensures at c.low_ones.ensures in record { by_index = placed p c.requires.0 c.requires.1 c.low_ones.result c.args.value ones c.requires.2; by_index_2 = λ wires. rw (zero-mul (2 ^ p.right)) at (placed p c.requires.0 c.requires.1 c.low_ones.result 0 ones (pow_pos (width p)) wires) }
