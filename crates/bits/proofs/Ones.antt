-- Laws of the number of set bits, `ones`: fewer bits are fewer ones, no ones is 0, one set bit is the only one, and what is left without the lowest. Each induction goes down a
-- number's digits, lowest first. Assumes nothing.
use Prim.Native.Nat.{ℕ, zero, suc, ◌+◌, ◌-◌, ◌*◌, ◌/◌, ◌%◌, ◌^◌, ◌<◌, ◌≤◌, zero-le, min}
use mathlib.Core.Path.{◌≡◌, refl, ap, ap₂, ◌∙◌}
use mathlib.Core.Bool.{Bool, true, false}
use mathlib.Core.Logic.{⊎_elim}
use native.Mathlib.Nat.{add-zero, zero-add, zero-min, le_refl, mod-lt}
use native.Mathlib.Numerals.{add-one}
use native.Mathlib.Omega.{arith}
use borrow.Author.Tests.{eqb-true, eqb-false}
use lib.Bits.{bit_and, and_step, and_self}
use lib.Dec.{T, eqb, lit≤}
use lib.Arith.{le-zero}
use lib.Count.{ones, ones_step, ones_cat}
use lib.Pow.{pow_pos, shr-shr, split}
use Rattle.bits.specs.Bits.{to_bit, bit}
use Rattle.bits.proofs.Tests.{is_true, either}
use Rattle.bits.proofs.Bits.{bit-digit, bit-shr}

to_bit-mono : (a b : Bool) → (T a → T b) → to_bit a ≤ to_bit b
to_bit-mono true true h = lit≤ tt
to_bit-mono true false h = absurd (h tt)
to_bit-mono false b h = zero-le

ones-within : (d x y : ℕ) → x ≤ d → ((i : ℕ) → T (bit x i) → T (bit y i)) → ones x ≤ ones y
unfolding ones
ones-within zero x y l h = rw (le-zero l) zero-le
ones-within (suc d) x y l h =
    let digit : to_bit (bit x 0) ≤ to_bit (bit y 0) = to_bit-mono (bit x 0) (bit y 0) (h 0) in
    let rest : ones (x / 2) ≤ ones (y / 2) =
    ones-within d (x / 2) (y / 2) (omega arith) (λ i t. rw (bit-shr y 1 i) (h (1 + i) (rw (bit-shr x 1 i) at t))) in
    omega (arith, ones_step x, ones_step y, bit-digit x 0, bit-digit y 0)

pub ones-mono : (x y : ℕ) → ((i : ℕ) → T (bit x i) → T (bit y i)) → ones x ≤ ones y
ones-mono x y h = ones-within x x y (le_refl x) h

ones-zero : (d x : ℕ) → x ≤ d → ones x ≡ 0 → x ≡ 0
ones-zero zero x l e = omega arith
ones-zero (suc d) x l e =
    let rest : x / 2 ≡ 0 = ones-zero d (x / 2) (omega arith) (omega (arith, ones_step x)) in
    omega (arith, ones_step x)

pub ones_none : (x : ℕ) → ones x ≡ 0 → x ≡ 0
ones_none x = ones-zero x x (le_refl x)

-- a number of one set bit has nothing above it
pub ones-one : (x k : ℕ) → ones x ≤ 1 → T (bit x k) → x / 2 ^ suc k ≡ 0
ones-one x k h t =
    let parts : ones x ≡ ones (x / 2 ^ k) + ones (x % 2 ^ k) = rw (split x k) at (ones_cat k (x / 2 ^ k) (x % 2 ^ k) (mod-lt x (pow_pos k))) in
    let digit : 1 ≡ x / 2 ^ k % 2 = rw (is_true (bit x k) t) at (bit-digit x k) in
    rw (← add-one k, ← shr-shr x k 1) (ones_none (x / 2 ^ k / 2) (omega (arith, ones_step (x / 2 ^ k))))

ones-double : (x : ℕ) → ones (x * 2) ≡ ones x
ones-double x =
    let digit : x * 2 % 2 ≡ 0 = omega arith in
    let rest : x * 2 / 2 ≡ x = omega arith in
    ones_step (x * 2) ∙ ap₂ (λ (d y : ℕ). d + ones y) digit rest ∙ zero-add (ones x)

-- without its lowest set bit a number has one less: below that bit the number before it has ones
ones_below : (d x : ℕ) → x ≤ d → 0 < x → suc (ones (bit_and x (x - 1))) ≡ ones x
ones_below zero x l h = absurd (omega arith)
ones_below (suc d) x l h = ⊎_elim (even (λ p. ones_below d (x / 2) (omega arith) p)) odd (either (eqb (x % 2) 0))
  where
    shared : (y b : ℕ) → bit_and x (x - 1) ≡ y * 2 + b → b ≡ 0 → ones (bit_and x (x - 1)) ≡ ones y
    shared y b e z = ap ones (e ∙ ap (λ (n : ℕ). y * 2 + n) z ∙ add-zero (y * 2)) ∙ ones-double y

    even : (0 < x / 2 → suc (ones (bit_and (x / 2) (x / 2 - 1))) ≡ ones (x / 2)) → eqb (x % 2) 0 ≡ true → suc (ones (bit_and x (x - 1))) ≡ ones x
    even half e =
        let low : x % 2 ≡ 0 = eqb-true (x % 2) 0 e in
        let before : (x - 1) / 2 ≡ x / 2 - 1 = omega arith in
        let both : bit_and x (x - 1) ≡ bit_and (x / 2) (x / 2 - 1) * 2 + min 0 ((x - 1) % 2) = rw (low, before) at (and_step x (x - 1)) in
        omega (arith, shared (bit_and (x / 2) (x / 2 - 1)) (min 0 ((x - 1) % 2)) both (zero-min ((x - 1) % 2)), half (omega arith), ones_step x)

    odd : eqb (x % 2) 0 ≡ false → suc (ones (bit_and x (x - 1))) ≡ ones x
    odd e =
        let low : x % 2 ≡ 1 = omega (arith, eqb-false (x % 2) 0 e) in
        let before : (x - 1) / 2 ≡ x / 2 = omega arith in
        let digit : (x - 1) % 2 ≡ 0 = omega arith in
        let both : bit_and x (x - 1) ≡ x / 2 * 2 + 0 = rw (low, before, digit, and_self) at (and_step x (x - 1)) in
        omega (arith, shared (x / 2) 0 both refl, ones_step x)

pub ones-less : (x : ℕ) → 0 < x → suc (ones (bit_and x (x - 1))) ≡ ones x
ones-less x h = ones_below x x (le_refl x) h
