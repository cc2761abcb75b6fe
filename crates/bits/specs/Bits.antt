-- Bits of numbers, and tests and numbers made cycle by cycle or bit by bit. Every definition computes, so that a worked case holds by
-- computation. Assumes nothing.
use Rattle.std.specs.Prelude.{ℕ, zero, suc, ◌+◌, ◌*◌, ◌/◌, ◌%◌, ◌^◌, Bool, true, false, ◌&&◌, ◌||◌, cond, eqb}
use Rattle.std.specs.Int.Bits.{bit_and, bit_xor}

-- the number 1 where the test holds, and 0 where it does not
abbrev pub to_bit : Bool → ℕ
to_bit b = cond b 1 0

-- whether bit k of x is 1
unfoldable pub bit : ℕ → ℕ → Bool
bit x k = eqb (x / 2 ^ k % 2) 1

-- whether f holds at some number below k
unfoldable pub some : ℕ → (ℕ → Bool) → Bool
some zero f = false
some (suc k) f = some k f || f k

-- whether f holds at each number below k
unfoldable pub every : ℕ → (ℕ → Bool) → Bool
every zero f = true
every (suc k) f = every k f && f k

-- the number whose bit i is f i for each i below k, and which has no other bits
unfoldable pub number : ℕ → (ℕ → Bool) → ℕ
number zero f = zero
number (suc k) f = number k f + to_bit (f k) * 2 ^ k

-- the ones of x that are not ones of y: its bit i is `bit x i && not (bit y i)` (`bit-without` of `proofs/Bits.antt`)
abbrev pub without : ℕ → ℕ → ℕ
without x y = bit_xor x (bit_and x y)
