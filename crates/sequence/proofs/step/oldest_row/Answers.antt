-- `sequence::step::oldest_row` meets its contract: where no event is unknown, an attempt that ends fails. Assumes nothing.
use Prim.Native.Nat.{ℕ, suc, ◌+◌, ◌-◌, ◌*◌, ◌^◌, ◌≤◌, ◌<◌}
use mathlib.Core.Path.{◌≡◌, refl}
use mathlib.Core.Bool.{Bool, false}
use native.Mathlib.Nat.{lt_of_le_of_lt}
use native.Mathlib.Omega.{arith}
use lib.Bits.{bit_and, and_le_l, and_le_r}
use lib.Dec.{lit<}
use Rattle.bits.specs.Bits.{bit, to_bit, without}
use Rattle.bits.proofs.Bits.{bit_past, without-lt, without-none}
use Rattle.rules.specs.Rules.{row_of, check_marks}
use Rattle.sequence.proofs.step.oldest_row.Goals as goal

-- a word of n bits has no bit above n - 1
low : (n x : ℕ) → 1 ≤ n → x < 2 ^ n → x < 2 ^ suc (n - 1)
low n x one h = let same : suc (n - 1) ≡ n = omega (arith, one) in rw same h

sums : (failure doubt : ℕ) (a d : Bool) → failure ≡ to_bit a → doubt ≡ to_bit d → 1 * failure + 32 * doubt ≡ row_of (check_marks a false d)
unfolding row_of
sums failure doubt a d p q = omega (arith, p, q)

none : (x k : ℕ) → bit (bit_and x 0) k ≡ false
none x k = let z : bit_and x 0 ≡ 0 = omega (arith, and_le_r x 0) in rw z (bit_past 0 0 k (lit< tt) (omega arith))

pub highest_bit-requires : goal.highest_bit-requires
highest_bit-requires c = (omega (arith, c.requires.1), low c.args.n c.args.ended c.requires.0 c.requires.2)

pub overflow_mul-result : goal.overflow_mul-result
overflow_mul-result c = omega (arith, c.highest_bit.ensures.1)

pub returns-then-unknown-eq0 : goal.returns-then-unknown-eq0
returns-then-unknown-eq0 c =
    let a = c.args in
    let h = c.highest_bit in
    rw (c.if-unknown-eq0.true, without-none a.ended, none a.ended (a.n - 1)) (omega (arith, sums h.result 0 (bit a.ended (a.n - 1)) false h.ensures.0 refl))

pub highest_bit-requires-2 : goal.highest_bit-requires-2
highest_bit-requires-2 c =
    let a = c.args in
    (omega (arith, c.requires.1), low a.n (without a.ended a.unknown) c.requires.0 (without-lt a.n a.ended a.unknown c.requires.2))

pub overflow_mul-result-2 : goal.overflow_mul-result-2
overflow_mul-result-2 c = omega (arith, c.highest_bit-2.ensures.1)

pub overflow_sub-n-3 : goal.overflow_sub-n-3
overflow_sub-n-3 c = omega (arith, c.requires.0)

pub highest_bit-requires-3 : goal.highest_bit-requires-3
highest_bit-requires-3 c =
    let a = c.args in
    (omega (arith, c.requires.1), low a.n (bit_and a.ended a.unknown) c.requires.0 (lt_of_le_of_lt (and_le_l a.ended a.unknown) c.requires.2))

pub overflow_mul-result-3 : goal.overflow_mul-result-3
overflow_mul-result-3 c = omega (arith, c.highest_bit-3.ensures.1)

pub overflow_add-result : goal.overflow_add-result
overflow_add-result c = omega (arith, c.highest_bit-2.ensures.1, c.highest_bit-3.ensures.1)

pub returns : goal.returns
returns c =
    let a = c.args in
    sums c.highest_bit-2.result c.highest_bit-3.result (bit (without a.ended a.unknown) (a.n - 1)) (bit (bit_and a.ended a.unknown) (a.n - 1))
    c.highest_bit-2.ensures.0 c.highest_bit-3.ensures.0
