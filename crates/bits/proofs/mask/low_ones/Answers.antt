-- `bits::mask::low_ones` meets its contract: 1 shifted left by k is 2 ^ k, which is at least 1. Assumes nothing.
use Prim.Native.Nat.{ℕ, ◌-◌}
use mathlib.Core.Path.{ap}
use native.Mathlib.Omega.{arith}
use lib.Pow.{pow_pos}
use Rattle.bits.proofs.Bits.{shifted_one}
use Rattle.bits.proofs.mask.low_ones.Goals as goal

pub overflow_sub-result : goal.overflow_sub-result
overflow_sub-result c = omega (arith, shifted_one c.args.k 64 c.requires, pow_pos c.args.k)

pub returns : goal.returns
returns c = ap (λ (x : ℕ). x - 1) (shifted_one c.args.k 64 c.requires)
