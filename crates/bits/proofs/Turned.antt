-- A range of the wires in the other order: bit 31 - right + k there is wire right - k. Assumes nothing.
use Prim.Native.Nat.{ℕ, suc, ◌+◌, ◌-◌, ◌≤◌, ◌<◌}
use mathlib.Core.Path.{◌≡◌, ap, ◌∙◌}
use native.Mathlib.Omega.{arith}
use Rattle.bits.specs.Bits.{bit, number}
use Rattle.bits.proofs.Bits.{number-ext, bit-number}

pub turned-cut : (left right wires turned : ℕ) → left < right → right ≤ 31 → turned ≡ number 32 (λ (i : ℕ). bit wires (31 - i))
    → number (suc (31 - left - (31 - right))) (λ (k : ℕ). bit turned (31 - right + k)) ≡ number (suc (right - left)) (λ (k : ℕ). bit wires (right - k))
turned-cut left right wires turned h g e =
    let n = suc (right - left) in
    let same : suc (31 - left - (31 - right)) ≡ n = omega arith in
    ap (λ (w : ℕ). number w (λ (k : ℕ). bit turned (31 - right + k))) same
    ∙ number-ext n (λ (k : ℕ). bit turned (31 - right + k)) (λ (k : ℕ). bit wires (right - k))
    (λ k l.
    let low : 31 - right + k < 32 = omega arith in
    let wire : 31 - (31 - right + k) ≡ right - k = omega arith in
    ap (λ (x : ℕ). bit x (31 - right + k)) e ∙ bit-number 32 (λ (i : ℕ). bit wires (31 - i)) (31 - right + k) low ∙ ap (bit wires) wire)
