-- The first failure, from document 01, "What the viewer calls" and "Refusal numbers". Assumes nothing.
use Rattle.std.specs.Prelude.{ℕ, ◌+◌, ◌*◌, ◌<◌, ◌≡◌, Bool, true, false, cond, List, T, leb, eqb, length, get_or, Option, Some, None, Result, Ok, Err}
use Rattle.rules.specs.declared.refusal.Refusal.{Refusal}
use Rattle.rules.specs.Rules.{failing}
use Rattle.first_failure.specs.declared.search.FirstFailure.{FirstFailure}

-- "K lots of N rows, checker by checker": the row of checker k in cycle t
abbrev pub row_at : List ℕ → ℕ → ℕ → ℕ → ℕ
row_at rows cycles k t = get_or rows (k * cycles + t) 0

-- "9: more than 64 checkers. 4: […] N above 65,536 (also first failure's N). 5: another lent slice has not the length that is due." 9 is tested first.
unfoldable pub search_refusal : ℕ → ℕ → ℕ → ℕ
search_refusal checkers cycles rows = cond (leb checkers 64) (cond (leb cycles 65536) (cond (eqb rows (checkers * cycles)) 0 5) 4) 9

-- the values of each case of the answer, beside its refusal number
abbrev pub is_found : Result (Option FirstFailure) Refusal → Bool
is_found (Err _) = false
is_found (Ok None) = false
is_found (Ok (Some _)) = true

abbrev pub checker_of : Result (Option FirstFailure) Refusal → ℕ
checker_of (Err _) = 0
checker_of (Ok None) = 0
checker_of (Ok (Some found)) = found.checker

abbrev pub cycle_of : Result (Option FirstFailure) Refusal → ℕ
cycle_of (Err _) = 0
cycle_of (Ok None) = 0
cycle_of (Ok (Some found)) = found.cycle

-- "The smallest cycle with mark 1 or 2, then the smallest checker"
pub record First (checkers cycles : ℕ) (rows : List ℕ) (checker cycle : ℕ) : Type 0 where
  pub in_checkers : checker < checkers
  pub in_cycles : cycle < cycles
  pub fails : T (failing (row_at rows cycles checker cycle))
  pub no_earlier : (k t : ℕ) → k < checkers → t < cycle → T (failing (row_at rows cycles k t)) → ⊥
  pub no_smaller : (k : ℕ) → k < checker → T (failing (row_at rows cycles k cycle)) → ⊥

-- what is answered where nothing is refused: "'none' exactly if no row has either mark"
pub record Searched (checkers cycles : ℕ) (rows : List ℕ) (refusal : ℕ) (found : Bool) (checker cycle : ℕ) : Type 0 where
  pub not_refused : refusal ≡ 0
  pub first : found ≡ true → First checkers cycles rows checker cycle
  pub none : found ≡ false → (k t : ℕ) → k < checkers → t < cycles → T (failing (row_at rows cycles k t)) → ⊥
  pub none_numbers : found ≡ false → (checker ≡ 0) × (cycle ≡ 0)

-- refused: "every other number answered is 0"
pub record SearchAnswer (checkers cycles : ℕ) (rows : List ℕ) (refusal : ℕ) (found : Bool) (checker cycle : ℕ) : Type 0 where
  pub refusal_is : refusal ≡ search_refusal checkers cycles (length rows)
  pub refused : (refusal ≡ 0 → ⊥) → (found ≡ false) × (checker ≡ 0) × (cycle ≡ 0)
  pub done : refusal ≡ 0 → Searched checkers cycles rows refusal found checker cycle
