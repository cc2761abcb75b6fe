-- Laws of sums that take a mark's bit as it stands in a row: a row under the mask of mark i is 0 or 2^i, so a sum is 2^i times the count. Two rows stand side
-- by side in a word, one in each half, and the mask has its bit in both halves: so such a sum is 2^i times a word with a count in each half. Of 1,024 rows in
-- each half it fits 32 bits, and no half overflows, while there are at most 6 marks. Assumes nothing.
use Prim.Native.Nat.{ℕ, ◌+◌, ◌-◌, ◌*◌, ◌/◌, ◌%◌, ◌^◌, ◌<◌, ◌≤◌}
use mathlib.Core.Path.{◌≡◌, sym, ap, ap₂, ◌∙◌}
use mathlib.Core.Bool.{Bool}
use native.Mathlib.Nat.{add-mul, mul_assoc, mul_comm, mul-le-mul_right, mod-lt, two-pow-succ}
use native.Mathlib.Numerals.{one-add}
use native.Mathlib.Omega.{arith}
use lib.Bits.{bit_and, and_block, and_high}
use lib.Dec.{lit<}
use lib.Pow.{pow-lt, shl_exact, shl-shr}
use Rattle.bits.specs.Bits.{to_bit, bit}
use Rattle.bits.proofs.Bits.{bit-digit, bit-mod}

masked : (x i : ℕ) → bit_and x (2 ^ i) ≡ to_bit (bit x i) * 2 ^ i
masked x i =
    let one : 2 ^ i ≡ 2 ^ (1 + i) - 2 ^ i = omega (arith, two-pow-succ i, ap (λ (k : ℕ). 2 ^ k) (one-add i)) in
    ap (bit_and x) one ∙ and_high x 1 i ∙ ap (λ (d : ℕ). d * 2 ^ i) (sym (bit-digit x i))

-- the mask with its bit in both halves, as the shift makes it
pub both-mask : (i : ℕ) → i < 16 → (65537 * 2 ^ i) % 2 ^ 32 ≡ 2 ^ i * 65536 + 2 ^ i
both-mask i h = shl_exact 17 i 32 (lit< tt) (omega arith) ∙ omega arith

-- a weight in both halves is the weight of the word
weight-out : (p q w : ℕ) → p * w * 65536 + q * w ≡ (p * 65536 + q) * w
weight-out p q w =
    ap (λ (n : ℕ). n + q * w) (mul_assoc p w 65536 ∙ ap (λ (n : ℕ). p * n) (mul_comm w 65536) ∙ sym (mul_assoc p 65536 w))
    ∙ sym (add-mul (p * 65536) q w)

-- two rows under the mask: the mark's bit of each, in its half
pub both-masked : (low high i : ℕ) → i < 16
    → bit_and (high % 65536 * 65536 + low % 65536) (2 ^ i * 65536 + 2 ^ i) ≡ (to_bit (bit high i) * 65536 + to_bit (bit low i)) * 2 ^ i
both-masked low high i h =
    and_block 16 (high % 65536) (2 ^ i) (low % 65536) (2 ^ i) (mod-lt low (lit< tt)) (pow-lt h)
    ∙ ap₂ (λ (m n : ℕ). m * 65536 + n) (half high) (half low) ∙ weight-out (to_bit (bit high i)) (to_bit (bit low i)) (2 ^ i)
  where
    half : (x : ℕ) → bit_and (x % 65536) (2 ^ i) ≡ to_bit (bit x i) * 2 ^ i
    half x = masked (x % 65536) i ∙ ap (λ (b : Bool). to_bit b * 2 ^ i) (bit-mod x 16 i h)

-- one more row in each half
pub both-fit : (low high i : ℕ) → low < 1024 → high < 1024 → i < 6 → (high * 65536 + low) * 2 ^ i + 65537 * 2 ^ i < 2 ^ 32
both-fit low high i l k h =
    let few : high * 65536 + low + 65537 ≤ 1024 * 65537 = omega arith in
    omega (arith, mul-le-mul_right (2 ^ i) few, add-mul (high * 65536 + low) 65537 (2 ^ i), pow-lt h)

-- a sum takes one more row in each half
pub both-more : (low high p q w : ℕ) → (high * 65536 + low) * w + (q * 65536 + p) * w ≡ ((high + q) * 65536 + (low + p)) * w
both-more low high p q w = sym (add-mul (high * 65536 + low) (q * 65536 + p) w) ∙ ap (λ (n : ℕ). n * w) (omega arith)

-- the counts of both halves, without the weight
pub both-counts : (low high i : ℕ) → low < 65536
    → (high * 65536 + low) * 2 ^ i / 2 ^ i % 65536 + (high * 65536 + low) * 2 ^ i / 2 ^ i / 65536 ≡ low + high
both-counts low high i h = ap (λ (n : ℕ). n % 65536 + n / 65536) (shl-shr (high * 65536 + low) i) ∙ omega arith
