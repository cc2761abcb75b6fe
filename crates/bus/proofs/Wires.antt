-- Every value that fits a port's width is the value of some wires: wire i carries the bit of the value whose wire is i. The value of any wires
-- fits the width, and of wires that are all 0 it is 0. Assumes nothing.
use Prim.Native.Nat.{ℕ, suc, ◌+◌, ◌-◌, ◌^◌, ◌<◌, ◌≤◌}
use mathlib.Core.Path.{◌≡◌, refl, sym, ap, ◌∙◌}
use mathlib.Core.Bool.{Bool, true, false, not, cond}
use mathlib.Core.Logic.{⊎_elim}
use native.Mathlib.Omega.{arith}
use lib.Dec.{T, eqb, leb, leb→le, lit<}
use lib.Pow.{pow_pos, pow-lt}
use borrow.Author.Tests.{leb-true, leb-false, eq-eqb, eqb-true, eqb-false}
use Rattle.bits.specs.Bits.{bit, number}
use Rattle.bus.specs.Range.{within, width, wire_of, value_of}
use Rattle.bus.specs.declared.range.Range.{Range}
use Rattle.bits.proofs.Tests.{either, and_left, and_right}
use Rattle.bits.proofs.Bits.{number_is, number_lt, bit-number, bit_past}

-- the bit of the value that wire i carries
bit_at : Range → ℕ → ℕ
bit_at r i = cond (leb r.right r.left) (i - r.right) (r.right - i)

-- wires with the value v
pub wires_for : Range → ℕ → ℕ
wires_for r v = number 32 (λ i. bit v (bit_at r i))

pub wires-small : (r : Range) (v : ℕ) → wires_for r v < 2 ^ 32
unfolding wires_for
wires-small r v = number_lt 32 (λ i. bit v (bit_at r i))

pub value-lt : (r : Range) (x : ℕ) → value_of r x < 2 ^ width r
unfolding value_of
value-lt r x = number_lt (width r) (λ k. bit x (wire_of r k))

-- a port has a wire, so 1 fits it
pub one-fits : (r : Range) → 1 < 2 ^ width r
unfolding width
one-fits r = pow-lt {i = 0} {j = width r} (omega arith)

-- a port of one wire holds 0 or 1
pub one-wire : (r : Range) (x : ℕ) → width r ≡ 1 → not (eqb (value_of r x) 0) ≡ eqb (value_of r x) 1
one-wire r x v =
    let low : value_of r x < 2 = rw v at (value-lt r x) in
    ⊎_elim (λ (e : eqb (value_of r x) 0 ≡ true). rw (eqb-true (value_of r x) 0 e) refl)
    (λ (e : eqb (value_of r x) 0 ≡ false). rw e (sym (eq-eqb (value_of r x) 1 (omega (arith, eqb-false (value_of r x) 0 e))))) (either (eqb (value_of r x) 0))

-- wires that are all 0 have the value 0
pub value-zero : (r : Range) → value_of r 0 ≡ 0
unfolding value_of
value-zero r = sym (number_is (width r) 0 (λ k. bit 0 (wire_of r k)) (pow_pos (width r)) (λ k l. zero_bit k ∙ sym (zero_bit (wire_of r k))))
  where
    zero_bit : (i : ℕ) → bit 0 i ≡ false
    zero_bit i = bit_past 0 0 i (lit< tt) (omega arith)

-- a bit of the value has one of the 32 wires, and that wire carries it
wired : (r : Range) (k : ℕ) → T (within r) → k < width r → (wire_of r k < 32) × (bit_at r (wire_of r k) ≡ k)
unfolding within width wire_of bit_at
wired r k h = by (leb r.right r.left) refl
  where
    bounds : (r.left ≤ 31) × (r.right ≤ 31)
    bounds = omega (arith, leb→le, and_left (leb r.left 31) (leb r.right 31) h, and_right (leb r.left 31) (leb r.right 31) h)

    by : (b : Bool) → leb r.right r.left ≡ b → k < suc (cond b (r.left - r.right) (r.right - r.left)) →
        (cond b (r.right + k) (r.right - k) < 32)
        × (cond b (cond b (r.right + k) (r.right - k) - r.right) (r.right - cond b (r.right + k) (r.right - k)) ≡ k)
    by true e l = omega (arith, bounds.0, leb-true r.right r.left e)
    by false e l = omega (arith, bounds.1, leb-false r.right r.left e)

pub value-wires : (r : Range) (v : ℕ) → T (within r) → v < 2 ^ width r → value_of r (wires_for r v) ≡ v
unfolding value_of wires_for
value-wires r v h l =
    sym
    (number_is (width r) v (λ k. bit (wires_for r v) (wire_of r k)) l
    (λ k s. sym (bit-number 32 (λ i. bit v (bit_at r i)) (wire_of r k) (wired r k h s).0 ∙ ap (bit v) (wired r k h s).1)))
