-- `bits::cut::downward` meets its contract: in the other order wire right - k stands at 31 - right + k. Assumes nothing.
use Prim.Native.Nat.{ℕ, ◌+◌, ◌-◌, ◌<◌}
use mathlib.Core.Path.{◌≡◌, ap, ◌∙◌}
use native.Mathlib.Omega.{arith}
use Rattle.bits.specs.Bits.{bit}
use Rattle.bits.proofs.Bits.{bit-number, bit-shr}
use Rattle.bits.proofs.cut.downward.Goals as goal

pub returns : goal.returns
returns c = λ k l.
    let a = c.args in
    let low : 31 - a.right + k < 32 = omega (arith, c.requires) in
    let wire : 31 - (31 - a.right + k) ≡ a.right - k = omega (arith, c.requires) in
    bit-shr c.reversed.result (31 - a.right) k ∙ ap (λ (x : ℕ). bit x (31 - a.right + k)) c.reversed.ensures
    ∙ bit-number 32 (λ (i : ℕ). bit a.wires (31 - i)) (31 - a.right + k) low ∙ ap (bit a.wires) wire
