-- Where the arguments of a program are read. Assumes nothing.
use Rattle.std.specs.Prelude.{ℕ, ◌+◌, min}

-- the number of the argument behind that of a number; the last number of 64 bits stays, and there is no argument there
unfoldable pub behind : ℕ → ℕ
behind at = min (at + 1) 18446744073709551615
