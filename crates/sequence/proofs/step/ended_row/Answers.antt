-- `sequence::step::ended_row` meets its contract: where no event is unknown, every attempt that ends fails. Assumes nothing.
use Prim.Native.Nat.{ℕ}
use mathlib.Core.Path.{◌≡◌}
use native.Mathlib.Omega.{arith}
use lib.Bits.{bit_and, and_le_r}
use Rattle.bits.proofs.Bits.{without-none}
use Rattle.sequence.proofs.step.ended_row.Goals as goal

shares-none : (x : ℕ) → bit_and x 0 ≡ 0
shares-none x = omega (arith, and_le_r x 0)

pub returns-then-unknown-eq0 : goal.returns-then-unknown-eq0
returns-then-unknown-eq0 c = let t = c.before in rw (t.if-unknown-eq0.true, without-none t.args.ended, shares-none t.args.ended) c.check_row.ensures

pub returns : goal.returns
returns c = c.check_row-2.ensures
