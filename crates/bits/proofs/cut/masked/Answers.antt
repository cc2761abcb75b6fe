-- `bits::cut::masked` meets its contract: the shift drops the wires below `right`, and the mask those above `left`, so that the wires' bits are left.
-- Assumes nothing.
use Prim.Native.Nat.{ℕ, suc, ◌+◌, ◌-◌, ◌/◌, ◌^◌, ◌≤◌}
use mathlib.Core.Path.{◌≡◌, sym, ap, ◌∙◌}
use native.Mathlib.Omega.{arith}
use lib.Bits.{bit_and, and_mask}
use lib.Pow.{pow_mono}
use Rattle.bits.specs.Bits.{bit, number}
use Rattle.bits.proofs.Bits.{number-bits, number-ext, bit-shr}
use Rattle.bits.proofs.cut.masked.Goals as goal

-- the n digits of x from place r on
cut : (x r n m : ℕ) → m ≡ 2 ^ n - 1 → bit_and (x / 2 ^ r) m ≡ number n (λ (k : ℕ). bit x (r + k))
cut x r n m e =
    ap (bit_and (x / 2 ^ r)) e ∙ and_mask (x / 2 ^ r) n ∙ sym (number-bits n (x / 2 ^ r))
    ∙ number-ext n (bit (x / 2 ^ r)) (λ (k : ℕ). bit x (r + k)) (λ k _. bit-shr x r k)

cut-is : (c : goal.After-low_ones)
    → let a = c.args in
    bit_and (a.wires / 2 ^ a.right) c.low_ones.result ≡ number (suc (a.left - a.right)) (λ (k : ℕ). bit a.wires (a.right + k))
cut-is c =
    let a = c.args in
    let e : a.left - a.right + 1 ≡ suc (a.left - a.right) = omega arith in
    cut a.wires a.right (suc (a.left - a.right)) c.low_ones.result (rw e at c.low_ones.ensures)

pub overflow_cast-result : goal.overflow_cast-result
overflow_cast-result c =
    let a = c.args in
    let narrow : a.left - a.right + 1 ≤ 32 = omega arith in
    omega (arith, c.low_ones.ensures, pow_mono narrow)

pub returns : goal.returns
returns c = cut-is c
