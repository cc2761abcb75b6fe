-- A port is known where its unknown wires have the value 0, and then it reads as its wires do. Assumes nothing.
use Prim.Native.Nat.{ℕ, ◌<◌, zero-le}
use mathlib.Core.Path.{◌≡◌, refl, sym, ap, ◌∙◌}
use mathlib.Core.Bool.{Bool, true, false, not, and-true}
use lib.Dec.{eqb, lit<}
use borrow.Author.Tests.{eqb-true}
use Rattle.bits.specs.Bits.{bit, number, without}
use Rattle.bits.proofs.Bits.{bit-number, bit_past, bit-without, number-ext}
use Rattle.bus.specs.Range.{width, wire_of, value_of}
use Rattle.bus.specs.declared.range.Range.{Range}
use Rattle.bus.proofs.Wires.{value-zero}

-- a port that has no unknown wire is known
pub none-known : (r : Range) (x : ℕ) → x ≡ 0 → true ≡ eqb (value_of r x) 0
none-known r x e = rw (e, value-zero r) refl

pub known_is : (r : Range) (x : ℕ) (b : Bool) → b ≡ not (eqb (value_of r x) 0) → not b ≡ eqb (value_of r x) 0
known_is r x b e = ap not e ∙ twice (eqb (value_of r x) 0)
  where
    twice : (a : Bool) → not (not a) ≡ a
    twice true = refl
    twice false = refl

-- a port whose bits are all known reads as its wires do
pub read_known : (r : Range) (wires unknown : ℕ) → eqb (value_of r unknown) 0 ≡ true → value_of r wires ≡ value_of r (without wires unknown)
unfolding value_of
read_known r wires unknown e =
    number-ext (width r) (λ k. bit wires (wire_of r k)) (λ k. bit (without wires unknown) (wire_of r k))
    (λ k l. sym (bit-without wires unknown (wire_of r k) ∙ rw (none k l) (and-true (bit wires (wire_of r k)))))
  where
    none : (k : ℕ) → k < width r → bit unknown (wire_of r k) ≡ false
    none k l =
        sym (bit-number (width r) (λ i. bit unknown (wire_of r i)) k l)
        ∙ ap (λ (x : ℕ). bit x k) (eqb-true (number (width r) (λ i. bit unknown (wire_of r i))) 0 e) ∙ bit_past 0 0 k (lit< tt) zero-le
