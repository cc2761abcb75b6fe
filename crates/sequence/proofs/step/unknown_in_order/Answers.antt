-- `sequence::step::unknown_in_order` meets its contract: where no wire is unknown, no event is. Assumes nothing.
use Prim.Native.Nat.{ℕ, ◌-◌, zero-le}
use mathlib.Core.Path.{◌≡◌, sym, ap, ◌∙◌}
use mathlib.Core.Bool.{false}
use lib.Dec.{lit<}
use Rattle.bits.specs.Bits.{bit}
use Rattle.bits.proofs.Bits.{bit_past}
use Rattle.bus.specs.Range.{value_of}
use Rattle.bus.proofs.Wires.{value-zero}
use Rattle.sequence.proofs.step.unknown_in_order.Goals as goal

no-bit : (i : ℕ) → bit 0 i ≡ false
no-bit i = bit_past 0 0 i (lit< tt) zero-le

pub returns-then-wires-eq0 : goal.returns-then-wires-eq0
returns-then-wires-eq0 c = λ i l.
    let a = c.args in
    let k = a.c.n - 1 - i in
    no-bit i ∙ sym (ap (λ (w : ℕ). bit (value_of a.c.p w) k) c.if-wires-eq0.true ∙ ap (λ (x : ℕ). bit x k) (value-zero a.c.p) ∙ no-bit k)

pub returns : goal.returns
returns c = c.in_order.ensures
