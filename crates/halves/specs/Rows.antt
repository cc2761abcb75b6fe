-- How many rows of a stretch have a mark. Assumes nothing.
use Rattle.std.specs.Prelude.{ℕ, zero, suc, ◌+◌, Bool, ◌&&◌, List, leb, get_or}
use Rattle.bits.specs.Bits.{to_bit, bit}

-- at how many numbers below k f holds
unfoldable pub count : ℕ → (ℕ → Bool) → ℕ
count zero f = 0
count (suc k) f = count k f + to_bit (f k)

-- how many of the rows of cycles a to e−1 have mark i, whatever other bits they have
unfoldable pub marks_in : List ℕ → ℕ → ℕ → ℕ → ℕ
marks_in rows i a e = count e (λ t. leb a t && bit (get_or rows t 0) i)
