-- What is kept of a word, byte by byte. Assumes nothing.
use Rattle.std.specs.Prelude.{Bool, true, false, cond, not, ◌&&◌, ◌||◌, List, [], ◌∷◌, ℕ, suc, ◌+◌, ◌-◌, ◌*◌, ◌%◌, ◌^◌, eqb, ltb, leb}
use Rattle.std.specs.Int.Bits.{bit_or}
use Rattle.dump_words.specs.declared.text.Text.{Text}
use Rattle.dump_words.specs.declared.text.Keyword.{Keyword}
use Rattle.dump_words.specs.declared.number.Number.{Number}
use Rattle.dump_words.specs.declared.scan.Scan.{Scan}

-- THE FIRST SIXTEEN BYTES, the length up to 17, and whether every byte is one of 33 to 126
abbrev pub no_text : Text
no_text = record { length = 0; low = 0; high = 0; plain = 1 }

unfoldable pub plain_after : ℕ → ℕ → ℕ
plain_after plain b = cond (ltb b 33) 0 (cond (ltb 126 b) 0 plain)

unfoldable pub text_add : Text → ℕ → Text
text_add t b =
    cond (ltb t.length 8) (record { length = t.length + 1; low = bit_or t.low (b * 2 ^ (8 * t.length) % 2 ^ 64); high = t.high; plain = plain_after t.plain b })
    (cond (ltb t.length 16) (record { length = t.length + 1; low = t.low; high = bit_or t.high (b * 2 ^ (8 * (t.length - 8)) % 2 ^ 64); plain = plain_after t.plain b })
    (record { length = 17; low = t.low; high = t.high; plain = plain_after t.plain b }))

unfoldable pub text_is : Text → ℕ → ℕ → ℕ → Bool
text_is t n l h = eqb t.length n && eqb t.low l && eqb t.high h

-- a list of words, three numbers of each
unfoldable pub text_in : Text → List ℕ → Bool
text_in t [] = false
text_in t (n ∷ []) = false
text_in t (n ∷ l ∷ []) = false
text_in t (n ∷ l ∷ h ∷ list) = text_is t n l h || text_in t list

-- the three numbers of each word of a list
abbrev pub numbers_of : List Keyword → List ℕ
numbers_of [] = []
numbers_of (k ∷ list) = k.0 ∷ k.1 ∷ k.2 ∷ numbers_of list

-- DECIMAL NUMBERS: state 0 no digit yet, 1 a number, 2 one above 64 bits, 3 no number
abbrev pub no_number : Number
no_number = record { value = 0; state = 0 }

unfoldable pub digit_add : Number → ℕ → Number
digit_add n d = cond (ltb 1 n.state) n (cond (ltb (n.value * 10 + d) (2 ^ 64)) (record { value = n.value * 10 + d; state = 1 }) (record { value = 0; state = 2 }))

unfoldable pub number_add : Number → ℕ → Number
number_add n b = cond (ltb b 48) (record { value = 0; state = 3 }) (cond (ltb 57 b) (record { value = 0; state = 3 }) (digit_add n (b - 48)))

-- A RANGE AT THE END of what was read: phase 0 none, 1 its left end, 2 its right end, 3 a range with one end, 4 with two
unfoldable pub counts_after : ℕ → ℕ → ℕ
counts_after kind b = cond (eqb kind 0) 1 (cond (eqb kind 1) (cond (eqb b 92) 1 0) 0)

abbrev pub scanned : Scan → ℕ → Number → Number → Scan
scanned s phase left right = record { kind = s.kind; counts = s.counts; phase = phase; left = left; right = right }

unfoldable pub scan_phase : Number → ℕ → ℕ
scan_phase n phase = cond (eqb n.state 3) 0 phase

unfoldable pub left_digit : Scan → ℕ → Scan
left_digit s b = scanned s (scan_phase (number_add s.left b) 1) (number_add s.left b) s.right

unfoldable pub left_add : Scan → ℕ → Scan
left_add s b =
    cond (eqb s.left.state 0) (left_digit s b)
    (cond (eqb b 58) (scanned s 2 s.left s.right)
    (cond (eqb b 93) (scanned s 3 s.left s.right)
    (left_digit s b)))

unfoldable pub right_digit : Scan → ℕ → Scan
right_digit s b = scanned s (scan_phase (number_add s.right b) 2) s.left (number_add s.right b)

unfoldable pub right_add : Scan → ℕ → Scan
right_add s b = cond (eqb s.right.state 0) (right_digit s b) (cond (eqb b 93) (scanned s 4 s.left s.right) (right_digit s b))

abbrev pub counted : Scan → ℕ → Scan
counted s b = record { kind = s.kind; counts = counts_after s.kind b; phase = s.phase; left = s.left; right = s.right }

unfoldable pub scan_add : Scan → ℕ → Scan
scan_add s b =
    cond (eqb b 91) (scanned (counted s b) (cond (eqb s.counts 1) 1 0) no_number no_number)
    (cond (eqb s.phase 1) (left_add (counted s b) b)
    (cond (eqb s.phase 2) (right_add (counted s b) b)
    (scanned (counted s b) 0 s.left s.right)))
