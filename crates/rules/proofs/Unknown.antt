-- Laws of known and unknown bits: a bit that reads 1 is known, and where nothing is unknown a port reads as its wires do. Assumes nothing.
use Prim.Native.Nat.{ℕ}
use mathlib.Core.Path.{◌≡◌, refl}
use mathlib.Core.Bool.{Bool, true, false, not, ◌&&◌}
use mathlib.Core.Logic.{⊎_elim}
use borrow.Author.Tests.{ltb-true, ltb-false}
use lib.Dec.{ltb}
use Rattle.bits.specs.Bits.{bit, number, without}
use Rattle.bits.proofs.Tests.{either}
use Rattle.bits.proofs.Bits.{bit-number, bit_past, bit-without, number_lt}
use Rattle.bus.specs.Range.{width, wire_of, value_of}
use Rattle.bus.specs.declared.range.Range.{Range}
use Rattle.rules.specs.declared.config.Config.{Config}
use Rattle.rules.specs.declared.frame.Frame.{Frame}
use Rattle.rules.specs.Frame.{P, unknown_p}
use Rattle.rules.specs.Sequence.{event_missed}

-- a bit of a port
value-bit : (r : Range) (wires i : ℕ) → bit (value_of r wires) i ≡ (ltb i (width r) && bit wires (wire_of r i))
unfolding value_of
value-bit r wires i =
    ⊎_elim (λ (l : ltb i (width r) ≡ true). rw l (bit-number (width r) (λ k. bit wires (wire_of r k)) i (ltb-true i (width r) l)))
    (λ (l : ltb i (width r) ≡ false). rw l (bit_past (number (width r) (λ k. bit wires (wire_of r k))) (width r) i (number_lt (width r) (λ k. bit wires (wire_of r k))) (ltb-false i (width r) l)))
    (either (ltb i (width r)))

-- one that reads 1 is known
pub one_known : (r : Range) (wires unknown i : ℕ) → (bit (value_of r (without wires unknown)) i && bit (value_of r unknown) i) ≡ false
one_known r wires unknown i =
    rw (value-bit r (without wires unknown) i, value-bit r unknown i, bit-without wires unknown (wire_of r i)) (by (ltb i (width r)) (bit wires (wire_of r i)) (bit unknown (wire_of r i)))
  where
    by : (l a b : Bool) → ((l && (a && not b)) && (l && b)) ≡ false
    by true true true = refl
    by true true false = refl
    by true false b = refl
    by false a b = refl

-- and is not missed
pub one-met : (c : Config) (f : Frame) (i : ℕ) → (bit (P c f) i && event_missed c f i) ≡ false
unfolding event_missed
one-met c f i = by (bit (P c f) i) (not (bit (unknown_p c f) i))
  where
    by : (a b : Bool) → (a && (not a && b)) ≡ false
    by true b = refl
    by false b = refl
