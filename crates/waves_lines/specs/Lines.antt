-- The lines of one checker in a cycle, from its row and the row before, as the code makes them. Assumes nothing.
use Rattle.std.specs.Prelude.{ℕ, ◌+◌, ◌-◌, ◌*◌, ◌/◌, ◌%◌, ◌^◌, ◌≤◌, ◌≡◌, true, cond, List, [], ◌∷◌, eqb, length, get_or}
use Rattle.waves.specs.Text.{line, each}
use Rattle.waves.specs.Waves.{name_of}
use Rattle.waves.specs.Answer.{only_marks}

-- a value and a name
abbrev pub value_line : ℕ → ℕ → ℕ → List ℕ
value_line value checker mark = line (((48 + value) ∷ name_of checker mark) ∷ [])

-- the line of mark 2^i, where the two rows differ in it
unfoldable pub mark_line : ℕ → ℕ → ℕ → ℕ → List ℕ
mark_line row before checker i = cond (eqb (row / 2 ^ i % 2) (before / 2 ^ i % 2)) [] (value_line (row / 2 ^ i % 2) checker (2 ^ i))

unfoldable pub marks_text : ℕ → ℕ → ℕ → List ℕ
marks_text row before checker = each (mark_line row before checker) 0 6

-- the row before that of a place in cycle t; in cycle 0 one that differs from it in every mark
unfoldable pub row_before : List ℕ → ℕ → ℕ → ℕ
row_before rows place t = cond (eqb t 0) (63 - get_or rows place 0 % 64) (get_or rows (place - 1) 0)

-- checkers, cycles and rows that are not refused
pub record Given (checkers cycles : ℕ) (rows : List ℕ) : Type 0 where
  pub few : checkers ≤ 64
  pub short : cycles ≤ 65536
  pub rows_are : length rows ≡ checkers * cycles
  pub marks : only_marks rows ≡ true
