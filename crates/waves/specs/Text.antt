-- Lines of a text, decimal numbers, and things one behind the other, from document 02, §9. Assumes nothing.
use Rattle.std.specs.Prelude.{cond, List, [], ◌∷◌, ◌++◌, ℕ, zero, suc, ◌+◌, ◌/◌, ◌%◌, ltb}

-- "lines, each ended by byte 10": the words of a line with a byte 32 between them
unfoldable pub line : List (List ℕ) → List ℕ
line [] = 10 ∷ []
line (w ∷ []) = w ++ 10 ∷ []
line (w ∷ v ∷ ws) = w ++ 32 ∷ line (v ∷ ws)

unfoldable pub text : List (List (List ℕ)) → List ℕ
text [] = []
text (l ∷ ls) = line l ++ text ls

-- a decimal number without leading zeros, of at most so many digits
unfoldable pub digits_of : ℕ → ℕ → List ℕ
digits_of zero n = []
digits_of (suc most) n = cond (ltb n 10) ((48 + n) ∷ []) (digits_of most (n / 10) ++ ((48 + n % 10) ∷ []))

-- a number has fewer digits than 1 more than itself
abbrev pub decimal : ℕ → List ℕ
decimal n = digits_of (suc n) n

-- what f gives for j, j + 1 and so on, m times, one behind the other
unfoldable pub each : {A : Type 0} → (ℕ → List A) → ℕ → ℕ → List A
each f j zero = []
each f j (suc m) = f j ++ each f (suc j) m
