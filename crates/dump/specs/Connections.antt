-- Which wires of the dump become the clock and the wires of a frame, from document 02, §1. Assumes nothing.
use Rattle.std.specs.Prelude.{Bool, true, false, cond, not, ◌&&◌, ◌||◌, List, [], ◌∷◌, ℕ, suc, ◌-◌, eqb, ltb, leb, length, get_or}
use Rattle.dump.specs.Ranges.{distance}
use Rattle.dump.specs.State.{Declared}
use Rattle.dump.specs.Declarations.{index_of, known, real_at}

-- "A table of 129 pairs, code and index: entry 0 is the clock, entry 1 + 32·w + i is wire i of the frame's word w"; "0 says not connected"
pub record Pair : Type 0 where
  pub code : ℕ
  pub index : ℕ

unfoldable pub pairs : List ℕ → List Pair
pairs [] = []
pairs (c ∷ []) = []
pairs (c ∷ i ∷ ws) = record { code = c; index = i } ∷ pairs ws

abbrev pub connected : Pair → Bool
connected p = not (eqb p.code 0)

-- "its index lies between the ends of the code's range, these included"
abbrev pub between : ℕ → ℕ → ℕ → Bool
between i l r = leb l i && leb i r || leb r i && leb i l

abbrev pub left_of : Declared → ℕ → ℕ
left_of d x = get_or d.lefts (index_of d.codes x) 0

abbrev pub right_of : Declared → ℕ → ℕ
right_of d x = get_or d.rights (index_of d.codes x) 0

-- "A pair is good when its code is declared as bits and its index lies between the ends"
unfoldable pub good : Declared → Pair → Bool
good d p = known d p.code && not (real_at d (index_of d.codes p.code)) && between p.index (left_of d p.code) (right_of d p.code)

unfoldable pub all_good : Declared → List Pair → Bool
all_good d [] = true
all_good d (p ∷ ps) = (not (connected p) || good d p) && all_good d ps

-- "A clock that is not connected is not declared."
unfoldable pub good_table : Declared → List Pair → Bool
good_table d [] = false
good_table d (p ∷ ps) = connected p && all_good d (p ∷ ps)

-- "Before its first change a wire is x."; "all others 0"
unfoldable pub at_first : List Pair → List ℕ
at_first [] = []
at_first (p ∷ ps) = cond (connected p) 2 0 ∷ at_first ps

-- "Bit i of a wire declared [l:r] is the digit |i − r| places from the right."
unfoldable pub digit_place : Declared → Pair → ℕ
digit_place d p = distance p.index (right_of d p.code)

-- the digit at a place from the right; "Fewer are extended to the left by 0 where the first is 0 or 1, else by the first"
unfoldable pub digit_at : List ℕ → ℕ → ℕ
digit_at ds k = cond (ltb k (length ds)) (get_or ds (length ds - suc k) 2) (cond (ltb (get_or ds 0 2) 2) 0 (get_or ds 0 2))

-- the values where the wire with code x has changed to these digits
unfoldable pub changed_to : Declared → List Pair → List ℕ → ℕ → List ℕ → List ℕ
changed_to d [] vs x ds = []
changed_to d (p ∷ ps) [] x ds = []
changed_to d (p ∷ ps) (v ∷ vs) x ds = cond (eqb p.code x) (digit_at ds (digit_place d p)) v ∷ changed_to d ps vs x ds
