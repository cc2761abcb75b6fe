-- The 32 bits of a word in groups of a given width, of which each two neighbours change places. Every definition computes. Assumes nothing.
use Rattle.std.specs.Prelude.{ℕ, ◌+◌, ◌-◌, ◌/◌, ◌%◌, Bool, cond, eqb}
use Rattle.bits.specs.Bits.{bit, number}

-- whether bit i lies in the lower one of its pair of groups
unfoldable pub lower : ℕ → ℕ → Bool
lower width i = eqb (i / width % 2) 0

-- the place of bit i in the other group of the pair
unfoldable pub neighbour : ℕ → ℕ → ℕ
neighbour width i = cond (lower width i) (i + width) (i - width)

-- the word that has ones in the lower groups alone
unfoldable pub lower_groups : ℕ → ℕ
lower_groups width = number 32 (lower width)

-- the word x with the groups of each pair in each other's place
unfoldable pub swapped_groups : ℕ → ℕ → ℕ
swapped_groups width x = number 32 (λ i. bit x (neighbour width i))
