-- The ones of a word from the highest on, as code goes through them: `chosen` at the places of the bits, counted from the top of t bits, has the place of the
-- highest one first, and behind it the places of the ones that are left without it. Assumes nothing.
use Prim.Native.Nat.{ℕ, suc, ◌+◌, ◌-◌, ◌*◌, ◌%◌, ◌^◌, ◌<◌, ◌≤◌, zero-le}
use mathlib.Core.Path.{◌≡◌, sym, ap, ◌∙◌}
use mathlib.Core.Bool.{Bool, true, false}
use mathlib.Core.List.{[], ◌∷◌}
use mathlib.Core.Logic.{⊎_elim}
use native.Mathlib.Nat.{le_refl, mod-lt, mod-eq_of_lt, one-mul}
use native.Mathlib.Omega.{arith}
use borrow.Author.Tests.{ltb-true, ltb-false}
use lib.Count.{count_leading_zeros, leading_top}
use lib.Dec.{T, leb, ltb, le→leb}
use lib.Pow.{pow_pos}
use Rattle.bits.specs.Bits.{to_bit, bit}
use Rattle.bits.proofs.Tests.{either, is_true, of-false}
use Rattle.bits.proofs.Bits.{mod-more, bit-mod, bit_past, bit-top}
use Rattle.listed.specs.Lists.{chosen}
use Rattle.listed.proofs.Chosen.{chosen-first, chosen_none}

-- ---- the highest bit

pub top_set : (x j : ℕ) → 2 ^ j ≤ x → x < 2 ^ suc j → bit x j ≡ true
top_set x j h l = bit-top x j l ∙ is_true (leb (2 ^ j) x) (le→leb (2 ^ j) x h)

pub without-top : (x j : ℕ) → 2 ^ j ≤ x → x < 2 ^ suc j → x - 2 ^ j ≡ x % 2 ^ j
without-top x j h l =
    let e : x ≡ x % 2 ^ j + to_bit true * 2 ^ j = sym (mod-eq_of_lt l) ∙ mod-more x j ∙ ap (λ (b : Bool). x % 2 ^ j + to_bit b * 2 ^ j) (top_set x j h l) in
    omega (arith, e, one-mul (2 ^ j))

-- a one below 2 ^ k is at a place below k
pub within : (x k j : ℕ) → x < 2 ^ k → T (bit x j) → j < k
within x k j h b =
    ⊎_elim (λ (q : ltb j k ≡ true). ltb-true j k q) (λ (q : ltb j k ≡ false). absurd (of-false (bit_past x k j h (ltb-false j k q)) b)) (either (ltb j k))

-- the place of the highest one in w bits, as the code finds it
abbrev pub highest : ℕ → ℕ → ℕ
highest w x = w - 1 - count_leading_zeros w x

pub record Highest (w x : ℕ) : Type 0 where
  pub zeros : count_leading_zeros w x ≤ w - 1
  pub low : highest w x < w
  pub below : 2 ^ highest w x ≤ x
  pub above : x < 2 ^ suc (highest w x)

pub highest-one : (w x : ℕ) → 0 < x → x < 2 ^ w → Highest w x
highest-one w x some small =
    let q = leading_top w x some small in
    let e : highest w x ≡ q.0 = omega (arith, q.1) in
    record { zeros = omega (arith, q.1); low = omega (arith, q.1); below = rw e q.2; above = rw e q.3 }

-- ---- from the highest on

pub highest-first : (x t j : ℕ) → 2 ^ j ≤ x → x < 2 ^ suc j → j < t
    → chosen t (λ s. bit x (t - suc s)) ≡ (t - 1 - j) ∷ chosen t (λ s. bit (x - 2 ^ j) (t - suc s))
highest-first x t j h l k =
    let s : t - suc (t - 1 - j) ≡ j = omega arith in
    chosen-first t (t - 1 - j) (λ s. bit x (t - suc s)) (λ s. bit (x - 2 ^ j) (t - suc s)) (omega arith) (ap (bit x) s ∙ top_set x j h l)
    (λ u i. bit_past x (suc j) (t - suc u) l (omega arith))
    (λ u i g. sym (ap (λ (y : ℕ). bit y (t - suc u)) (without-top x j h l) ∙ bit-mod x j (t - suc u) (omega arith)))
    (λ u i.
    ap (λ (y : ℕ). bit y (t - suc u)) (without-top x j h l) ∙ bit_past (x % 2 ^ j) j (t - suc u) (mod-lt x (pow_pos j)) (omega arith))

pub none_first : (t : ℕ) → chosen t (λ s. bit 0 (t - suc s)) ≡ []
none_first t = chosen_none t (λ s. bit 0 (t - suc s)) (λ s l. bit_past 0 0 (t - suc s) (le_refl 1) zero-le)
