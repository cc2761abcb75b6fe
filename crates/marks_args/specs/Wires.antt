-- The table of connections with wires put into it: 129 pairs of a code and an index (VCD.md, "Connections"). Assumes nothing.
use Rattle.std.specs.Prelude.{ℕ, zero, suc, ◌+◌, ◌*◌, List, set}

-- the pair of one entry
unfoldable pub with_wire : List ℕ → ℕ → ℕ → ℕ → List ℕ
with_wire table entry code index = set (set table (2 * entry) code) (2 * entry + 1) index

-- so many entries one after the other, with as many indices one after the other
unfoldable pub with_wires : List ℕ → ℕ → ℕ → ℕ → ℕ → List ℕ
with_wires table entry code index zero = table
with_wires table entry code index (suc m) = with_wires (with_wire table entry code index) (entry + 1) code (index + 1) m
