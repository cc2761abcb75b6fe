-- A line has at most 256 bytes: what does not fit is left out. Assumes nothing.
use Rattle.std.specs.Prelude.{ℕ, List, ◌++◌, ◌-◌, length, take}

-- a line with as many of these bytes behind it as there is room for
unfoldable pub with_bytes : List ℕ → List ℕ → List ℕ
with_bytes line bytes = line ++ take (256 - length line) bytes
