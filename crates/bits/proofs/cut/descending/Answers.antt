-- `bits::cut::descending` meets its contract: the shift left drops the wires above `left`, and the shift right those below `right`, so that the wires'
-- bits are left. Assumes nothing.
use Prim.Native.Nat.{ℕ, suc, ◌+◌, ◌-◌, ◌*◌, ◌/◌, ◌%◌, ◌^◌}
use mathlib.Core.Path.{◌≡◌, ap, sym, ◌∙◌}
use native.Mathlib.Omega.{arith}
use lib.Pow.{field, shr-shr, shl-shr}
use Rattle.bits.specs.Bits.{bit, number}
use Rattle.bits.proofs.Bits.{number-bits, number-ext, bit-shr}
use Rattle.bits.proofs.cut.descending.Goals as goal

-- the n digits of x from place r on, had by a shift left by s that drops the digits above them, and a shift right
cut : (x s r n : ℕ) → x * 2 ^ s % 2 ^ (n + (s + r)) / 2 ^ (s + r) ≡ number n (λ (k : ℕ). bit x (r + k))
cut x s r n =
    field (x * 2 ^ s) n (s + r) ∙ ap (λ (y : ℕ). y % 2 ^ n) (sym (shr-shr (x * 2 ^ s) s r) ∙ ap (λ (y : ℕ). y / 2 ^ r) (shl-shr x s))
    ∙ sym (number-bits n (x / 2 ^ r)) ∙ number-ext n (bit (x / 2 ^ r)) (λ (k : ℕ). bit x (r + k)) (λ k _. bit-shr x r k)

pub returns : goal.returns
returns c =
    let a = c.args in
    let s = 31 - a.left in
    let n = suc (a.left - a.right) in
    let e : 32 ≡ n + (s + a.right) = omega arith in
    ap (λ (w : ℕ). a.wires * 2 ^ s % 2 ^ w / 2 ^ (s + a.right)) e ∙ cut a.wires s a.right n
