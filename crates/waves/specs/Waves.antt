-- The marks as waves: the bytes that are due for K checkers, N cycles and their rows, from document 02, §9. Assumes nothing.
use Rattle.std.specs.Prelude.{Bool, true, cond, not, List, [], ◌∷◌, ◌++◌, ℕ, zero, suc, ◌+◌, ◌*◌, ◌/◌, ◌%◌, ◌^◌, eqb}
use Rattle.dump.specs.Text.{bytes}
use Rattle.first_failure.specs.Search.{row_at}
use Rattle.waves.specs.Text.{text, decimal, each}

-- WIRES: "one wire per mark and checker"; `k3m32` is the name of that of checker 3 and mark 32
abbrev pub name_of : ℕ → ℕ → List ℕ
name_of checker mark = bytes "k" ++ decimal checker ++ bytes "m" ++ decimal mark

-- "each checker's marks in order": wire j is that of checker j / 6 and mark 2^(j % 6)
unfoldable pub name : ℕ → List ℕ
name j = name_of (j / 6) (2 ^ (j % 6))

-- what wire j is in cycle t: whether the row of its checker has its mark
unfoldable pub value_at : ℕ → List ℕ → ℕ → ℕ → ℕ
value_at cycles rows t j = row_at rows cycles (j / 6) t / 2 ^ (j % 6) % 2

-- THE HEADER
-- "`$var wire 1 k3m32 k3m32 $end`"
abbrev pub declaration : List ℕ → List (List ℕ)
declaration name = bytes "$var" ∷ bytes "wire" ∷ bytes "1" ∷ name ∷ name ∷ bytes "$end" ∷ []

abbrev pub wire_line : ℕ → List (List (List ℕ))
wire_line j = declaration (name j) ∷ []

-- "`$scope module marks $end`, `$var wire 1 clk clk $end`, […] for each checker's marks in order, `$upscope $end`, `$enddefinitions $end`"
abbrev pub opening : List (List (List ℕ))
opening = (bytes "$scope" ∷ bytes "module" ∷ bytes "marks" ∷ bytes "$end" ∷ []) ∷ declaration (bytes "clk") ∷ []

abbrev pub closing : List (List (List ℕ))
closing = (bytes "$upscope" ∷ bytes "$end" ∷ []) ∷ (bytes "$enddefinitions" ∷ bytes "$end" ∷ []) ∷ []

unfoldable pub header : ℕ → List (List (List ℕ))
header checkers = opening ++ each wire_line 0 (6 * checkers) ++ closing

-- CYCLES
-- "each wire changed […] (all in cycle 0)"
unfoldable pub changed : ℕ → List ℕ → ℕ → ℕ → Bool
changed cycles rows zero j = true
changed cycles rows (suc t) j = not (eqb (value_at cycles rows (suc t) j) (value_at cycles rows t j))

-- "`1k3m32`": the value, 0 or 1, and the name
abbrev pub change_line : ℕ → List ℕ → ℕ → ℕ → List (List (List ℕ))
change_line cycles rows t j = cond (changed cycles rows t j) ((((48 + value_at cycles rows t j) ∷ name j) ∷ []) ∷ []) []

-- "`#6`"
abbrev pub stamp : ℕ → List (List ℕ)
stamp n = (bytes "#" ++ decimal n) ∷ []

-- "as in cycle 3 `#6`, `0clk`, `1k3m32` for each wire changed, in that order, `#7`, `1clk`"
abbrev pub falls : ℕ → List (List (List ℕ))
falls t = stamp (2 * t) ∷ (bytes "0clk" ∷ []) ∷ []

abbrev pub rises : ℕ → List (List (List ℕ))
rises t = stamp (2 * t + 1) ∷ (bytes "1clk" ∷ []) ∷ []

unfoldable pub cycle_lines : ℕ → ℕ → List ℕ → ℕ → List (List (List ℕ))
cycle_lines checkers cycles rows t = falls t ++ each (change_line cycles rows t) 0 (6 * checkers) ++ rises t

-- THE TEXT
unfoldable pub waves : ℕ → ℕ → List ℕ → List ℕ
waves checkers cycles rows = text (header checkers ++ each (cycle_lines checkers cycles rows) 0 cycles)
