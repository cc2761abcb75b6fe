-- What a call that writes waves refuses, answers and leaves, from document 02, §9. Assumes nothing.
use Rattle.std.specs.Prelude.{◌≡◌, Bool, true, cond, ◌&&◌, ◌||◌, List, [], ◌∷◌, ◌++◌, ℕ, eqb, ltb, leb, length, drop}
use Rattle.first_failure.specs.Search.{search_refusal}
use Rattle.waves.specs.Waves.{waves}

-- no row has a bit that is no mark: the marks are 1, 2, 4, 8, 16 and 32
unfoldable pub only_marks : List ℕ → Bool
only_marks [] = true
only_marks (row ∷ rows) = ltb row 64 && only_marks rows

-- 9, 4 and 5 as for first failure; "Rows with other bits than marks are refusal 18; then an output that is too short is 19."
unfoldable pub waves_refusal : ℕ → ℕ → List ℕ → ℕ → ℕ
waves_refusal checkers cycles rows room =
    cond (eqb (search_refusal checkers cycles (length rows)) 0)
    (cond (only_marks rows) (cond (leb (length (waves checkers cycles rows)) room) 0 19) 18)
    (search_refusal checkers cycles (length rows))

-- "Both 0 and 19 answer the length due"; every other refusal answers 0
unfoldable pub answered_length : ℕ → ℕ → List ℕ → ℕ → ℕ
answered_length checkers cycles rows refusal = cond (eqb refusal 0 || eqb refusal 19) (length (waves checkers cycles rows)) 0

-- the output: "bytes beyond it stay"; a refusal writes nothing
unfoldable pub written : List ℕ → List ℕ → List ℕ
written due out = due ++ drop (length due) out

unfoldable pub left_in : ℕ → ℕ → List ℕ → List ℕ → ℕ → List ℕ
left_in checkers cycles rows out refusal = cond (eqb refusal 0) (written (waves checkers cycles rows) out) out

pub record WavesAnswer (checkers cycles : ℕ) (rows out : List ℕ) (refusal due : ℕ) (out' : List ℕ) : Type 0 where
  pub refusal_is : refusal ≡ waves_refusal checkers cycles rows (length out)
  pub length_is : due ≡ answered_length checkers cycles rows refusal
  pub out_is : out' ≡ left_in checkers cycles rows out refusal
