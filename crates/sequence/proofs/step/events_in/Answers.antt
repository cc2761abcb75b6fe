-- `sequence::step::events_in` meets its contract. Assumes nothing.
use Prim.Native.Nat.{ℕ, ◌-◌}
use mathlib.Core.Path.{ap, ◌∙◌}
use Rattle.bits.specs.Bits.{bit}
use Rattle.bus.specs.Range.{value_of}
use Rattle.sequence.proofs.step.events_in.Goals as goal

pub returns : goal.returns
returns c =
    let seen = c.before in
    let k = seen.args.c in
    record {
      up_is = seen.out_of_reset.ensures;
      seen_are = λ i l. seen.in_order.ensures i l ∙ ap (λ (x : ℕ). bit (value_of k.p x) (k.n - 1 - i)) seen.sample.ensures;
      unknown_are = c.unknown_in_order.ensures;
    }
