-- The text of a dump: its words with their lines, decimal numbers, keywords and identifier codes, from document 02, §1. Assumes nothing.
use Rattle.std.specs.Prelude.{Bool, true, false, cond, ◌&&◌, ◌||◌, List, [], ◌∷◌, ◌++◌, map, ℕ, suc, ◌+◌, ◌-◌, ◌*◌, eqb, leb}
use Prim.Native.Char.{code}
use Prim.Native.String.{String, [] as none, ◌∷◌ as ◌then◌}

-- "White space is 9 to 13 and 32."
abbrev pub blank : ℕ → Bool
blank b = eqb b 32 || leb 9 b && leb b 13

-- how many lines a byte ends
abbrev pub ended : ℕ → ℕ
ended b = cond (eqb b 10) 1 0

-- "A word is a longest run of other bytes. A word's line is 1 plus the number of bytes 10 before its first byte."
pub record Word : Type 0 where
  pub line : ℕ
  pub text : List ℕ

-- a text from its front: the bytes before its first white space, and the words behind that
pub record Cutting : Type 0 where
  pub first : List ℕ
  pub rest : List Word

-- no bytes are no word
abbrev pub joined : ℕ → List ℕ → List Word → List Word
joined l [] ws = ws
joined l (b ∷ w) ws = record { line = l; text = b ∷ w } ∷ ws

-- a byte in front, white space or not. The rest is a function of the line, so that it is computed once.
abbrev pub in_front : Bool → ℕ → ℕ → (ℕ → Cutting) → Cutting
in_front true b l rest = record { first = []; rest = joined (ended b + l) (rest (ended b + l)).first (rest (ended b + l)).rest }
in_front false b l rest = record { first = b ∷ (rest l).first; rest = (rest l).rest }

unfoldable pub cutting : ℕ → List ℕ → Cutting
cutting l [] = record { first = []; rest = [] }
cutting l (b ∷ bs) = in_front (blank b) b l (λ k. cutting k bs)

-- the words of a text that begins in line l
unfoldable pub words : ℕ → List ℕ → List Word
words l bs = joined l (cutting l bs).first (cutting l bs).rest

-- "The line count is the number of bytes 10, plus 1 where the last byte is not 10; 0 for no bytes."
unfoldable pub line_count : List ℕ → ℕ
line_count [] = 0
line_count (b ∷ []) = 1
line_count (b ∷ d ∷ bs) = ended b + line_count (d ∷ bs)

-- "A decimal number is one or more of 0 to 9; leading zeros count for nothing."
abbrev pub digit : ℕ → Bool
digit b = leb 48 b && leb b 57

unfoldable pub digits : List ℕ → Bool
digits [] = true
digits (b ∷ w) = digit b && digits w

unfoldable pub is_number : List ℕ → Bool
is_number [] = false
is_number (b ∷ w) = digits (b ∷ w)

-- its value, behind the value a of the digits in front of it
unfoldable pub value : ℕ → List ℕ → ℕ
value a [] = a
value a (b ∷ w) = value (a * 10 + (b - 48)) w

-- the bytes of a text that is written here
abbrev pub bytes : String → List ℕ
bytes none = []
bytes (c then s) = code c ∷ bytes s

-- "Keywords are matched exactly, lower case."
unfoldable pub same : List ℕ → List ℕ → Bool
same [] [] = true
same [] (b ∷ y) = false
same (a ∷ x) [] = false
same (a ∷ x) (b ∷ y) = eqb a b && same x y

unfoldable pub one_of : List (List ℕ) → List ℕ → Bool
one_of [] w = false
one_of (k ∷ ks) w = same w k || one_of ks w

abbrev pub is_end : List ℕ → Bool
is_end w = same w (bytes "$end")

-- "Identifier code: bytes 33 to 126"
abbrev pub code_byte : ℕ → Bool
code_byte b = leb 33 b && leb b 126

unfoldable pub is_code : List ℕ → Bool
is_code [] = true
is_code (b ∷ w) = code_byte b && is_code w

-- "A code is its bytes with the first byte lowest, as one 64-bit number"
unfoldable pub code_of : List ℕ → ℕ
code_of [] = 0
code_of (b ∷ w) = b + 256 * code_of w
