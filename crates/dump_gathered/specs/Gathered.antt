-- What is kept of a whole word, and what the whole word says. Assumes nothing.
use Rattle.std.specs.Prelude.{Bool, true, cond, ◌&&◌, List, [], ◌∷◌, ◌++◌, ℕ, suc, ◌<◌, ◌^◌, eqb, ltb, leb, length, take, drop}
use Rattle.dump.specs.Text.{is_number, value, code_of}
use Rattle.dump.specs.Ranges.{distance}
use Rattle.dump_words.specs.declared.text.Text.{Text}
use Rattle.dump_words.specs.declared.number.Number.{Number}
use Rattle.dump_words.specs.declared.scan.Scan.{Scan}
use Rattle.dump_words.specs.Gather.{text_add, number_add, scan_add, no_number}

-- WHAT IS KEPT: byte after byte is added
unfoldable pub text_of : Text → List ℕ → Text
text_of t [] = t
text_of t (b ∷ w) = text_of (text_add t b) w

unfoldable pub number_of : Number → List ℕ → Number
number_of n [] = n
number_of n (b ∷ w) = number_of (number_add n b) w

unfoldable pub scan_of : Scan → List ℕ → Scan
scan_of s [] = s
scan_of s (b ∷ w) = scan_of (scan_add s b) w

-- every entry is a byte
abbrev pub Bytes : List ℕ → Type 0
Bytes [] = Unit {0}
Bytes (b ∷ w) = (b < 256) × Bytes w

-- KEYWORDS: three numbers of each
abbrev pub triple : List ℕ → List ℕ
triple k = length k ∷ code_of (take 8 k) ∷ code_of (drop 8 k) ∷ []

abbrev pub triples : List (List ℕ) → List ℕ
triples [] = []
triples (k ∷ ks) = triple k ++ triples ks

-- whether every entry is a byte, and whether every word is one of at most 16 bytes: true by computation for words that are written out
unfoldable pub all_bytes : List ℕ → Bool
all_bytes [] = true
all_bytes (b ∷ w) = ltb b 256 && all_bytes w

unfoldable pub all_short : List (List ℕ) → Bool
all_short [] = true
all_short (k ∷ ks) = leb (length k) 16 && all_bytes k && all_short ks

-- NUMBERS: what is kept of a value, and of no number; the number that a whole word is
abbrev pub kept : ℕ → Number
kept v = cond (ltb v (2 ^ 64)) (record { value = v; state = 1 }) (record { value = 0; state = 2 })

abbrev pub lost : Number
lost = record { value = 0; state = 3 }

unfoldable pub numbered : List ℕ → Number
numbered [] = record { value = 0; state = 0 }
numbered (b ∷ w) = cond (is_number (b ∷ w)) (kept (value 0 (b ∷ w))) lost

-- RANGES: the scan behind the first byte, of a word in the place of a range, and of a name
unfoldable pub first_of_range : ℕ → Scan
first_of_range b = record { kind = 2; counts = 0; phase = cond (eqb b 91) 1 0; left = no_number; right = no_number }

unfoldable pub first_of_name : ℕ → Scan
first_of_name b = record { kind = cond (eqb b 92) 1 0; counts = cond (eqb b 92) 0 1; phase = 0; left = no_number; right = no_number }

-- what a scan says at the end of its word: the ends of the range, the right one of them, and whether it is as wide
unfoldable pub scan_ends : Scan → ℕ
scan_ends s = cond (eqb s.phase 4) 1 (cond (eqb s.phase 3) 2 0)

unfoldable pub scan_right : Scan → Number
scan_right s = cond (eqb s.phase 4) s.right s.left

unfoldable pub scan_fits : ℕ → Scan → Bool
scan_fits width s = eqb s.left.state 1 && eqb (scan_right s).state 1 && eqb (suc (distance s.left.value (scan_right s).value)) width
