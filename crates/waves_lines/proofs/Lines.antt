-- How long names and lines are, and that a row and the row before give the lines of the definition. Assumes nothing.
use Prim.Native.Nat.{ℕ, zero, suc, ◌+◌, ◌*◌, ◌/◌, ◌%◌, ◌^◌, ◌<◌}
use mathlib.Core.Path.{◌≡◌, refl, ap, ◌∙◌}
use mathlib.Core.List.{List, [], ◌++◌, append-nil, append_assoc}
use native.Mathlib.Omega.{arith}
use lib.ListN.{length, length-append}
use borrow.Author.Tests.{eq-eqb, ne_eqb}
use Rattle.waves.specs.Text.{line, text, decimal, each}
use Rattle.dump.specs.Text.{bytes}
use Rattle.waves.specs.Waves.{name_of, name, declaration, wire_line, opening, closing, header}
use Rattle.waves.proofs.Each.{each_same, text-append, text-each}
use Rattle.waves_lines.specs.Lines.{value_line, mark_line, marks_text}

pub name-length : (checker mark : ℕ) → length (name_of checker mark) ≡ length (decimal checker) + length (decimal mark) + 2
name-length checker mark = simp length-append (omega arith)

pub value-length : (value checker mark : ℕ) → length (value_line value checker mark) ≡ length (name_of checker mark) + 2
unfolding line
value-length value checker mark = simp length-append (omega arith)

-- a mark that is as it was has no line; one that is not has one
pub same-mark : (row before checker i : ℕ) → row / 2 ^ i % 2 ≡ before / 2 ^ i % 2 → mark_line row before checker i ≡ []
unfolding mark_line
same-mark row before checker i e = rw (eq-eqb (row / 2 ^ i % 2) (before / 2 ^ i % 2) e)

pub other-mark : (row before checker i : ℕ) → (row / 2 ^ i % 2 ≡ before / 2 ^ i % 2 → ⊥) → mark_line row before checker i ≡ value_line (row / 2 ^ i % 2) checker (2 ^ i)
unfolding mark_line
other-mark row before checker i e = rw (ne_eqb (row / 2 ^ i % 2) (before / 2 ^ i % 2) e)

-- the same row has no lines
pub same_row : (row checker : ℕ) → marks_text row row checker ≡ []
unfolding marks_text each
same_row row checker =
    rw (same-mark row row checker 0 refl, same-mark row row checker 1 refl, same-mark row row checker 2 refl, same-mark row row checker 3 refl, same-mark row row checker 4 refl, same-mark row row checker 5 refl)

-- a mark has at most two digits
pub small-mark : (i : ℕ) → i < 6 → 2 ^ i < 64
small-mark zero h = omega arith
small-mark (suc zero) h = omega arith
small-mark (suc (suc zero)) h = omega arith
small-mark (suc (suc (suc zero))) h = omega arith
small-mark (suc (suc (suc (suc zero)))) h = omega arith
small-mark (suc (suc (suc (suc (suc zero))))) h = omega arith
small-mark (suc (suc (suc (suc (suc (suc i)))))) h = absurd (omega arith)

-- THE HEADER
pub name-is : (j : ℕ) → name j ≡ name_of (j / 6) (2 ^ (j % 6))
unfolding name
name-is j = refl

-- the line of a wire, part by part
pub declaration-parts : (n : List ℕ) → line (declaration n) ≡ bytes "$var wire 1 " ++ (n ++ (bytes " " ++ (n ++ bytes " $end\n")))
unfolding line
declaration-parts n = refl

pub declaration-length : (n : List ℕ) → length (line (declaration n)) ≡ length n + length n + 19
declaration-length n = ap length (declaration-parts n) ∙ simp length-append (omega arith)

pub wire-length : (j : ℕ) → length (line (declaration (name j))) ≡ length (name_of (j / 6) (2 ^ (j % 6))) + length (name_of (j / 6) (2 ^ (j % 6))) + 19
wire-length j = declaration-length (name j) ∙ rw (name-is j) refl

-- the text of wire j
abbrev pub wire_text : ℕ → List ℕ
wire_text j = line (declaration (name j))

abbrev pub opened : List ℕ
opened = bytes "$scope module marks $end\n$var wire 1 clk clk $end\n"

abbrev pub closed : List ℕ
closed = bytes "$upscope $end\n$enddefinitions $end\n"

wires-text : (m : ℕ) → text (each wire_line 0 m) ≡ each wire_text 0 m
unfolding text
wires-text m = text-each wire_line 0 m ∙ each_same (λ j. text (wire_line j)) wire_text 0 0 m (λ i h. append-nil (wire_text (0 + i)))

opening-text : text opening ≡ opened
unfolding text line
opening-text = refl

closing-text : text closing ≡ closed
unfolding text line
closing-text = refl

pub header-parts : (checkers : ℕ) → text (header checkers) ≡ opened ++ (each wire_text 0 (6 * checkers) ++ closed)
unfolding header
header-parts checkers =
    text-append (opening ++ each wire_line 0 (6 * checkers)) closing
    ∙ rw (text-append opening (each wire_line 0 (6 * checkers)), opening-text, wires-text (6 * checkers), closing-text) (append_assoc opened (each wire_text 0 (6 * checkers)) closed)
