-- A value on the wires of a port that is declared downwards: the port has it exactly where its wires, with no others, are those of the value. Assumes nothing.
use Prim.Native.Nat.{ℕ, suc, ◌+◌, ◌-◌, ◌*◌, ◌/◌, ◌%◌, ◌^◌, ◌≤◌, ◌<◌}
use mathlib.Core.Path.{◌≡◌, refl, sym, ap, ap₂, ◌∙◌}
use native.Mathlib.Nat.{mod-add-div', mul-mod_left, mod-one, eq_of_mul-eq-mul_right}
use native.Mathlib.Omega.{arith}
use lib.Bits.{bit_and, and_shr, and_mod, and_mask}
use lib.Dec.{T, eqb, eqb→eq}
use lib.Pow.{pow_pos, shl-shr, shl_exact}
use borrow.Author.Tests.{le-leb, eq-eqb}
use Rattle.bits.specs.Bits.{bit, number}
use Rattle.bits.proofs.Bits.{number-bits, number-ext, bit-shr}
use Rattle.bits.proofs.Tests.{of-true, iff-eq}
use Rattle.bus.specs.Range.{width, within, value_of}
use Rattle.bus.specs.declared.range.Range.{Range}
use Rattle.bus.proofs.Ranges.{left-low, value-descending}

-- the n digits of x from place r on, where they stand
in_place : (x r n : ℕ) → bit_and x ((2 ^ n - 1) * 2 ^ r) ≡ number n (λ k. bit x (r + k)) * 2 ^ r
in_place x r n =
    let m = 2 ^ n - 1 in
    let y = bit_and x (m * 2 ^ r) in
    let high : y / 2 ^ r ≡ number n (λ k. bit x (r + k)) =
    and_shr x (m * 2 ^ r) r ∙ ap (bit_and (x / 2 ^ r)) (shl-shr m r) ∙ and_mask (x / 2 ^ r) n ∙ sym (number-bits n (x / 2 ^ r))
    ∙ number-ext n (bit (x / 2 ^ r)) (λ k. bit x (r + k)) (λ k _. bit-shr x r k) in
    let low : y % 2 ^ r ≡ 0 =
    and_mod x (m * 2 ^ r) r ∙ ap (bit_and (x % 2 ^ r)) (mul-mod_left m (2 ^ r)) ∙ and_mask (x % 2 ^ r) 0 ∙ mod-one (x % 2 ^ r) in
    sym (mod-add-div' y (2 ^ r)) ∙ ap₂ (λ (a b : ℕ). a + b * 2 ^ r) low high ∙ omega arith

-- shifted alike, two numbers are the same where they were
same-shifted : (a b r : ℕ) → eqb (a * 2 ^ r) (b * 2 ^ r) ≡ eqb a b
same-shifted a b r =
    iff-eq (eqb (a * 2 ^ r) (b * 2 ^ r)) (eqb a b)
    (λ e. of-true (eq-eqb a b (eq_of_mul-eq-mul_right (2 ^ r) (pow_pos r) a b (eqb→eq (a * 2 ^ r) (b * 2 ^ r) e))))
    (λ e. of-true (eq-eqb (a * 2 ^ r) (b * 2 ^ r) (ap (λ (n : ℕ). n * 2 ^ r) (eqb→eq a b e))))

module _ (p : Range) (h : T (within p)) (d : p.right ≤ p.left) where
  wide : width p ≡ suc (p.left - p.right)
  unfolding width
  wide = rw (le-leb _ _ d) refl

  -- the wires of the port are among the 32
  wires-fit : width p + p.right ≤ 32
  wires-fit = omega (arith, wide, left-low p h)

  pub placed : (ones v : ℕ) → ones ≡ 2 ^ width p - 1 → v < 2 ^ width p → (wires : ℕ)
      → eqb (bit_and wires (ones * 2 ^ p.right % 2 ^ 32)) (v * 2 ^ p.right % 2 ^ 32) ≡ eqb (value_of p wires) v
  placed ones v e l wires =
      let small : ones < 2 ^ width p = omega (arith, e, pow_pos (width p)) in
      ap₂ (λ (a b : ℕ). eqb (bit_and wires a) b) (shl_exact (width p) p.right 32 small wires-fit ∙ ap (λ (n : ℕ). n * 2 ^ p.right) e)
      (shl_exact (width p) p.right 32 l wires-fit)
      ∙ ap (λ (n : ℕ). eqb n (v * 2 ^ p.right)) (in_place wires p.right (width p))
      ∙ same-shifted (number (width p) (λ k. bit wires (p.right + k))) v p.right
      ∙ ap (λ (n : ℕ). eqb n v) (ap (λ (m : ℕ). number m (λ k. bit wires (p.right + k))) wide ∙ sym (value-descending p wires d))
