-- `sequence::step::in_order` meets its contract: the bits of a port that is declared from the other end come in the other order. Assumes nothing.
use Prim.Native.Nat.{ℕ, ◌-◌}
use mathlib.Core.Path.{◌≡◌, ap, ◌∙◌}
use Rattle.bits.specs.Bits.{bit, number}
use Rattle.bits.proofs.Bits.{bit-number}
use Rattle.bus.specs.Range.{width, value_of}
use Rattle.bus.proofs.Ranges.{turned-within, turned-width, value-turned}
use Rattle.rules.proofs.Good.{p-within, sequence-config}
use Rattle.sequence.proofs.step.in_order.Goals as goal

pub low_bits-requires : goal.low_bits-requires
low_bits-requires c =
    let t = c.turned in
    let s = c.before in
    turned-within s.args.c.p t.result t.ensures.0 t.ensures.1 (p-within s.args.c s.requires.0)

pub returns : goal.returns
returns c = λ i l.
    let t = c.turned in
    let s = c.before in
    let a = s.args in
    let n : width a.c.p ≡ a.c.n = (sequence-config a.c s.requires.0 s.requires.1).p-width in
    c.low_bits.ensures i (rw (turned-width a.c.p t.result t.ensures.0 t.ensures.1, n) l)
    ∙ ap (λ (x : ℕ). bit x i)
    (value-turned a.c.p t.result t.ensures.0 t.ensures.1 a.wires
    ∙ ap (λ (k : ℕ). number k (λ (j : ℕ). bit (value_of a.c.p a.wires) (k - 1 - j))) n)
    ∙ bit-number a.c.n (λ (j : ℕ). bit (value_of a.c.p a.wires) (a.c.n - 1 - j)) i l
