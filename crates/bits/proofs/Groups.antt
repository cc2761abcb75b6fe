-- A swap of neighbouring groups of bits by two shifts, two masks and an or, for groups of any width; and the five swaps that turn a word round. Assumes
-- nothing.
use Prim.Native.Nat.{ℕ, ◌+◌, ◌-◌, ◌*◌, ◌/◌, ◌%◌, ◌^◌, ◌≤◌, ◌<◌}
use mathlib.Core.Path.{◌≡◌, refl, ap, ap₂, ◌∙◌}
use mathlib.Core.Bool.{Bool, true, false, not, ◌&&◌, ◌||◌, cond, and-true, and-false, or-false}
use mathlib.Core.Logic.{⊎_elim}
use native.Mathlib.Nat.{div-eq_of_lt, div-eq-sub-div, mod-lt, lt_of_le_of_lt, add_comm}
use native.Mathlib.Omega.{arith}
use lib.Dec.{T, eqb, leb, ltb, ltb→lt}
use lib.Bits.{bit_and, bit_or, and_le_r, or_lt}
use lib.Pow.{pow_pos}
use borrow.Author.Tests.{leb-true, leb-false, eqb-true, eqb-false, eq-eqb, ne_eqb}
use Rattle.bits.specs.Bits.{bit, every, number}
use Rattle.bits.specs.Groups.{lower, neighbour, lower_groups, swapped_groups}
use Rattle.bits.proofs.Tests.{either, is_true, every-elim}
use Rattle.bits.proofs.Bits.{number_is, number-ext, number_lt, bit-number, bit-mod, bit-and, bit-or, bit-shr, bit-shl}

-- groups are lower and upper in turn
turn : (q : ℕ) → eqb ((q + 1) % 2) 0 ≡ not (eqb (q % 2) 0)
turn q =
    ⊎_elim (λ (e : eqb (q % 2) 0 ≡ true). rw e (ne_eqb ((q + 1) % 2) 0 (λ f. omega (arith, eqb-true (q % 2) 0 e))))
    (λ (e : eqb (q % 2) 0 ≡ false). rw e (eq-eqb ((q + 1) % 2) 0 (omega (arith, eqb-false (q % 2) 0 e)))) (either (eqb (q % 2) 0))

module _ (width : ℕ) (pos : 0 < width) where
  first : (i : ℕ) → i < width → lower width i ≡ true
  unfolding lower
  first i h = ap (λ (q : ℕ). eqb (q % 2) 0) (div-eq_of_lt h)

  next : (i : ℕ) → width ≤ i → lower width i ≡ not (lower width (i - width))
  unfolding lower
  next i h = ap (λ (q : ℕ). eqb (q % 2) 0) (div-eq-sub-div pos h) ∙ turn ((i - width) / width)

  -- Of the two bits that come to place i, the masks leave the one of the neighbouring group.
  one_left : (x i : ℕ) → (bit x (width + i) && lower width i || leb width i && (bit x (i - width) && lower width (i - width))) ≡ bit x (neighbour width i)
  unfolding neighbour
  one_left x i =
      ⊎_elim (λ (e : leb width i ≡ true). rw (e, next i (leb-true width i e), add_comm width i) (by (lower width (i - width))))
      (λ (e : leb width i ≡ false). rw (e, first i (leb-false width i e), add_comm width i) (simp (and-true, or-false))) (either (leb width i))
    where
      by : (l : Bool) → (bit x (i + width) && not l || bit x (i - width) && l) ≡ bit x (cond (not l) (i + width) (i - width))
      by true = simp (and-false, and-true)
      by false = simp (and-false, and-true, or-false)

  pub swap_is : (x mask : ℕ) → mask ≡ lower_groups width
      → bit_or (bit_and (x / 2 ^ width) mask) ((bit_and x mask * 2 ^ width) % 2 ^ 32) ≡ swapped_groups width x
  unfolding lower_groups swapped_groups
  swap_is x mask e = number_is 32 (bit_or down up) (λ (i : ℕ). bit x (neighbour width i)) small bits
    where
      down : ℕ
      down = bit_and (x / 2 ^ width) mask

      up : ℕ
      up = (bit_and x mask * 2 ^ width) % 2 ^ 32

      ones : (i : ℕ) → i < 32 → bit mask i ≡ lower width i
      ones i l = ap (λ (m : ℕ). bit m i) e ∙ bit-number 32 (lower width) i l

      small : bit_or down up < 2 ^ 32
      small =
          or_lt 32 down up (lt_of_le_of_lt (and_le_r (x / 2 ^ width) mask) (rw e (number_lt 32 (lower width))))
          (mod-lt (bit_and x mask * 2 ^ width) (pow_pos 32))

      bits : (i : ℕ) → i < 32 → bit (bit_or down up) i ≡ bit x (neighbour width i)
      bits i l =
          let near : i - width < 32 = omega arith in
          bit-or down up i
          ∙ ap₂ (λ (p q : Bool). p || q) (bit-and (x / 2 ^ width) mask i ∙ ap₂ (λ (p q : Bool). p && q) (bit-shr x width i) (ones i l))
          (bit-mod (bit_and x mask * 2 ^ width) 32 i l ∙ bit-shl (bit_and x mask) width i
          ∙ ap (λ (p : Bool). leb width i && p)
          (bit-and x mask (i - width) ∙ ap (λ (p : Bool). bit x (i - width) && p) (ones (i - width) near)))
          ∙ one_left x i

-- A swap of a word whose bit i is bit `place i` of x, where no neighbour of a bit lies outside the word.
swap-after : (width : ℕ) → T (every 32 (λ (i : ℕ). ltb (neighbour width i) 32)) → (place : ℕ → ℕ) (x : ℕ) {moved : ℕ}
    → moved ≡ number 32 (λ (i : ℕ). bit x (place i)) → swapped_groups width moved ≡ number 32 (λ (i : ℕ). bit x (place (neighbour width i)))
unfolding swapped_groups
swap-after width inside place x {moved} e =
    number-ext 32 (λ (i : ℕ). bit moved (neighbour width i)) (λ (i : ℕ). bit x (place (neighbour width i)))
    (λ i l.
    let near : neighbour width i < 32 = ltb→lt (neighbour width i) 32 (every-elim 32 (λ (k : ℕ). ltb (neighbour width k) 32) inside i l) in
    ap (λ (m : ℕ). bit m (neighbour width i)) e ∙ bit-number 32 (λ (k : ℕ). bit x (place k)) (neighbour width i) near)

-- where bit i comes from once the groups of each width have changed places, the narrowest first
abbrev source : ℕ → ℕ
source i = neighbour 1 (neighbour 2 (neighbour 4 (neighbour 8 (neighbour 16 i))))

-- That is bit 31 - i, by a test of each place.
pub all-swapped : (x : ℕ) → swapped_groups 16 (swapped_groups 8 (swapped_groups 4 (swapped_groups 2 (swapped_groups 1 x)))) ≡ number 32 (λ (i : ℕ). bit x (31 - i))
unfolding every lower neighbour swapped_groups
all-swapped x =
    swap-after 16 tt (λ (i : ℕ). neighbour 1 (neighbour 2 (neighbour 4 (neighbour 8 i)))) x
    (swap-after 8 tt (λ (i : ℕ). neighbour 1 (neighbour 2 (neighbour 4 i))) x
    (swap-after 4 tt (λ (i : ℕ). neighbour 1 (neighbour 2 i)) x (swap-after 2 tt (neighbour 1) x refl)))
    ∙ number-ext 32 (λ (i : ℕ). bit x (source i)) (λ (i : ℕ). bit x (31 - i))
    (λ i l. ap (bit x) (eqb-true (source i) (31 - i) (is_true _ (every-elim 32 (λ (k : ℕ). eqb (source k) (31 - k)) tt i l))))

-- Wire 3 of a word, on its way to 28.
worked : (swapped_groups 1 8 ≡ 4) × (swapped_groups 2 4 ≡ 1) × (swapped_groups 4 1 ≡ 16) × (swapped_groups 8 16 ≡ 4096) × (swapped_groups 16 4096 ≡ 268435456)
unfolding number bit lower neighbour swapped_groups
worked = (refl, refl, refl, refl, refl)
