-- Decimal numbers, digit by digit. Assumes nothing.
use Prim.Native.Nat.{ℕ, zero, suc, ◌+◌, ◌/◌, ◌%◌, ◌<◌, ◌≤◌}
use mathlib.Core.Path.{◌≡◌, refl, ◌∙◌}
use mathlib.Core.Bool.{Bool, true, false, cond}
use mathlib.Core.List.{[], ◌∷◌, ◌++◌, append_assoc}
use native.Mathlib.Omega.{arith}
use lib.Dec.{ltb}
use borrow.Author.Tests.{lt-ltb, le-ltb, ltb-false}
use Rattle.waves.specs.Text.{digits_of, decimal}
use Rattle.waves_put.specs.Put.{pair}

-- more room for digits than there are does not matter
enough : (a b n : ℕ) → n < a → n < b → digits_of a n ≡ digits_of b n
unfolding digits_of
enough zero b n h l = absurd (omega arith)
enough (suc a) zero n h l = absurd (omega arith)
enough (suc a) (suc b) n h l = by (ltb n 10) refl (λ (ten : 10 ≤ n). enough a b (n / 10) (omega arith) (omega arith))
  where
    by : (t : Bool) → ltb n 10 ≡ t → (10 ≤ n → digits_of a (n / 10) ≡ digits_of b (n / 10))
        → cond (ltb n 10) ((48 + n) ∷ []) (digits_of a (n / 10) ++ ((48 + n % 10) ∷ [])) ≡ cond (ltb n 10) ((48 + n) ∷ []) (digits_of b (n / 10) ++ ((48 + n % 10) ∷ []))
    by true e next = rw e
    by false e next = rw (e, next (ltb-false n 10 e))

pub one-digit : (n : ℕ) → n < 10 → decimal n ≡ (48 + n) ∷ []
unfolding digits_of
one-digit n h = rw (lt-ltb n 10 h)

pub more-digits : (n : ℕ) → 10 ≤ n → decimal n ≡ decimal (n / 10) ++ ((48 + n % 10) ∷ [])
unfolding digits_of
more-digits n h = rw (le-ltb n 10 h, enough n (suc (n / 10)) (n / 10) (omega arith) (omega arith))

pub two_digits : (n : ℕ) → 10 ≤ n → n < 100 → decimal n ≡ pair n
two_digits n h l = more-digits n h ∙ rw (one-digit (n / 10) (omega arith))

-- the last two digits behind those of the hundreds
pub hundreds : (n : ℕ) → 100 ≤ n → decimal n ≡ decimal (n / 100) ++ pair (n % 100)
hundreds n h =
    let e : n / 10 / 10 ≡ n / 100 = omega arith in
    let f : n / 10 % 10 ≡ n % 100 / 10 = omega arith in
    let g : n % 10 ≡ n % 100 % 10 = omega arith in
    more-digits n (omega arith) ∙ rw (more-digits (n / 10) (omega arith), e, append_assoc, f, g)

pub ten-thousands : (n : ℕ) → 10000 ≤ n → decimal n ≡ decimal (n / 10000) ++ pair (n / 100 % 100) ++ pair (n % 100)
ten-thousands n h =
    let e : n / 100 / 100 ≡ n / 10000 = omega arith in
    hundreds n (omega arith) ∙ rw (hundreds (n / 100) (omega arith), e)
