-- The place of a code, by a hint that is checked or by a search. Assumes nothing.
use Rattle.std.specs.Prelude.{cond, List, ℕ, ◌+◌, ◌*◌, ◌/◌, ◌%◌, ◌^◌, eqb, ltb, get_or, take}
use Rattle.dump.specs.Declarations.{index_of}

-- where the hint of a code stands
unfoldable pub slot : ℕ → ℕ
slot x = (x % 256 + 94 * (x / 2 ^ 8 % 256) + 61 * (x / 2 ^ 16 % 256) + 1021 * (x / 2 ^ 24 % 256)) % 2048

-- how many codes there are, at most 1,024
unfoldable pub bounded : ℕ → ℕ
bounded n = cond (ltb n 1024) n 1024

-- the place h where it is below n and has x, and else the first place of x
unfoldable pub hinted : List ℕ → ℕ → ℕ → ℕ → ℕ
hinted store n x h = cond (ltb h n) (cond (eqb (get_or store h 0) x) h (index_of (take n store) x)) (index_of (take n store) x)

unfoldable pub lookup : List ℕ → ℕ → ℕ → ℕ
lookup store n x = hinted store n x (get_or store (6144 + slot x) 0)
