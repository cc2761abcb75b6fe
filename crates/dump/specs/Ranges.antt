-- Ranges of a declaration, as a word of their own or at the end of a name, from document 02, §1. Assumes nothing.
use Rattle.std.specs.Prelude.{Bool, true, false, cond, not, ◌&&◌, ◌||◌, List, [], ◌∷◌, ℕ, suc, ◌+◌, ◌-◌, ◌*◌, ◌^◌, eqb, ltb}
use Rattle.dump.specs.Text.{digit}

-- [left:right], or [left] with right the same; or none
pub record Range : Type 0 where
  -- 0 none, 1 with two ends, 2 with one
  pub ends : ℕ
  pub left : ℕ
  pub right : ℕ

abbrev pub no_range : Range
no_range = record { ends = 0; left = 0; right = 0 }

abbrev pub given : Range → Bool
given r = ltb 0 r.ends

-- behind the colon: digits, and the bracket as the last byte. `some` says that there was a digit
unfoldable pub right_end : ℕ → ℕ → Bool → List ℕ → Range
right_end l r some [] = no_range
right_end l r some (b ∷ []) = cond (some && eqb b 93) (record { ends = 1; left = l; right = r }) no_range
right_end l r some (b ∷ d ∷ w) = cond (digit b) (right_end l (r * 10 + (b - 48)) true (d ∷ w)) no_range

-- behind the bracket: digits, and then the other bracket as the last byte, or a colon
unfoldable pub left_end : ℕ → Bool → List ℕ → Range
left_end l some [] = no_range
left_end l some (b ∷ []) = cond (some && eqb b 93) (record { ends = 2; left = l; right = l }) no_range
left_end l some (b ∷ d ∷ w) =
    cond (digit b) (left_end (l * 10 + (b - 48)) true (d ∷ w)) (cond (some && eqb b 58) (right_end l 0 false (d ∷ w)) no_range)

-- "a word `[i]` or `[i:j]`, i and j decimal numbers": the whole of it
unfoldable pub bracket : List ℕ → Range
bracket [] = no_range
bracket (b ∷ w) = cond (eqb b 91) (left_end 0 false w) no_range

-- The range at the end of a name, of which the bytes here are the rest. `counts` says whether a bracket here would be one:
-- "in a name that begins with a backslash only where the bracket directly follows another backslash"
unfoldable pub name_end : Bool → Bool → List ℕ → Range
name_end escaped counts [] = no_range
name_end escaped counts (b ∷ w) =
    cond (counts && given (bracket (b ∷ w))) (bracket (b ∷ w)) (name_end escaped (not escaped || eqb b 92) w)

-- "behind at least one other byte"
unfoldable pub in_name : List ℕ → Range
in_name [] = no_range
in_name (b ∷ w) = name_end (eqb b 92) (not (eqb b 92)) w

-- "`[i:j]`, or `[i]` where the width is 1"; only "the end of a name of bits"
unfoldable pub name_range : Bool → ℕ → List ℕ → Range
name_range real width w = cond (real || eqb (in_name w).ends 2 && not (eqb width 1)) no_range (in_name w)

-- the distance of two numbers
abbrev pub distance : ℕ → ℕ → ℕ
distance a b = (a - b) + (b - a)

-- "at most 64 bits", and "The width of a range is the distance of its ends plus 1 and must be the declared width."
unfoldable pub fits : ℕ → Range → Bool
fits width r = ltb r.left (2 ^ 64) && ltb r.right (2 ^ 64) && eqb (suc (distance r.left r.right)) width
