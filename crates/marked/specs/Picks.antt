-- The rows of a block that have mark 1 or 2: those of the cycles that have entries in the failure list. Assumes nothing.
use Rattle.std.specs.Prelude.{ℕ, suc, ◌-◌, ◌%◌, ◌≤◌, ◌≡◌, Bool, not, List, eqb, length, get_or, take}
use Rattle.bits.specs.Bits.{bit}
use Rattle.listed.specs.Lists.{chosen}

-- the most cycles of a block
abbrev pub block_cycles : ℕ
block_cycles = 256

unfoldable pub marked : List ℕ → ℕ → Bool
marked rows k = not (eqb (get_or rows k 0 % 4) 0)

-- the places of the ones in w bits, from the highest on
unfoldable pub places : ℕ → ℕ → List ℕ
places w x = chosen w (λ s. bit x (w - suc s))

-- the first n numbers of a list as long as a block are the marked rows among the first m, in ascending order
pub record Picks (rows : List ℕ) (m : ℕ) (picked : List ℕ) (n : ℕ) : Type 0 where
  pub long : length picked ≡ block_cycles
  pub few : n ≤ m
  pub are : take n picked ≡ chosen m (marked rows)
