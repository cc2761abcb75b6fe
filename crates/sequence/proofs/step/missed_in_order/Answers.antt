-- `sequence::step::missed_in_order` meets its contract: the events that are neither 1 nor unknown. Assumes nothing.
use Prim.Native.Nat.{ℕ, ◌-◌}
use mathlib.Core.Path.{ap, ap₂, ◌∙◌}
use mathlib.Core.Bool.{Bool, not, ◌&&◌}
use native.Mathlib.Omega.{arith}
use lib.Bits.{bit_or}
use lib.Pow.{pow_pos}
use Rattle.bits.specs.Bits.{bit, without}
use Rattle.bits.proofs.Bits.{bit-or, bit-ones, bit-without, without-lt, number_is}
use Rattle.rules.specs.Sequence.{event_missed}
use Rattle.rules.proofs.Good.{sequence-config}
use Rattle.sequence.proofs.SequenceCode.{neither}
use Rattle.sequence.proofs.step.missed_in_order.Goals as goal

pub low_ones-all-requires : goal.low_ones-all-requires
low_ones-all-requires c = let s = c.before in omega (arith, (sequence-config s.args.c s.requires.0 s.requires.1).high)

pub returns : goal.returns
returns c =
    let ones = c.before in
    let s = ones.before in
    let k = s.args.c in
    let f = s.args.frame in
    let sees = ones.events_in-events.ensures in
    let e = ones.events_in-events.result.seen in
    let u = ones.events_in-events.result.unknown in
    let all = ones.low_ones-all.result in
    number_is k.n (without all (bit_or e u)) (λ (i : ℕ). event_missed k f (k.n - 1 - i))
    (without-lt k.n all (bit_or e u) (omega (arith, ones.low_ones-all.ensures, pow_pos k.n)))
    (λ i l.
    bit-without all (bit_or e u) i
    ∙ ap₂ (λ (a b : Bool). a && not b) (ap (λ (x : ℕ). bit x i) ones.low_ones-all.ensures ∙ bit-ones k.n i l) (bit-or e u i)
    ∙ neither k 0 f e (sequence-config k s.requires.0 s.requires.1).low sees.seen_are u sees.unknown_are i l)
