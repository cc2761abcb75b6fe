-- `bus::range::Range::low_bits` meets its contract: each direction has a function of its own. Assumes nothing.
use Prim.Native.Nat.{ℕ, suc, ◌+◌, ◌-◌, ◌<◌, ◌≤◌}
use mathlib.Core.Path.{sym, ap, ◌∙◌}
use native.Mathlib.Omega.{arith}
use borrow.Author.Tests.{le-leb, lt-leb}
use Rattle.bits.specs.Bits.{bit}
use Rattle.bits.proofs.Bits.{bit-number}
use Rattle.bus.specs.Range.{width}
use Rattle.bus.specs.declared.range.Range.{Range}
use Rattle.bus.proofs.Ranges.{right-low, down, up, value-descending, value-ascending}
use Rattle.bus.proofs.range.Range.low_bits.Goals as goal

wide-down : (r : Range) (k : ℕ) → r.right ≤ r.left → k < width r → k < suc (r.left - r.right)
unfolding width
wide-down r k h l = rw (le-leb r.right r.left h) at l

wide-up : (r : Range) (k : ℕ) → r.left < r.right → k < width r → k < suc (r.right - r.left)
unfolding width
wide-up r k h l = rw (lt-leb r.right r.left h) at l

pub upward-requires : goal.upward-requires
upward-requires c = right-low c.args.self c.requires

pub downward-requires : goal.downward-requires
downward-requires c = right-low c.args.self c.requires

pub returns-then-descends : goal.returns-then-descends
returns-then-descends c = λ k l.
    let a = c.args in
    let h = down a.self _ c.descends.ensures c.if-descends.true in
    c.upward.ensures k
    ∙ sym
    (ap (λ (x : ℕ). bit x k) (value-descending a.self a.wires h)
    ∙ bit-number (suc (a.self.left - a.self.right)) (λ (i : ℕ). bit a.wires (a.self.right + i)) k (wide-down a.self k h l))

pub returns-else-descends : goal.returns-else-descends
returns-else-descends c = λ k l.
    let a = c.args in
    let h = up a.self _ c.descends.ensures c.if-descends.false in
    let m = wide-up a.self k h l in
    c.downward.ensures k (omega (arith, m))
    ∙ sym
    (ap (λ (x : ℕ). bit x k) (value-ascending a.self a.wires h)
    ∙ bit-number (suc (a.self.right - a.self.left)) (λ (i : ℕ). bit a.wires (a.self.right - i)) k m)
