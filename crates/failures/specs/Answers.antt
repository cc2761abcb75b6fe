-- What the failure list's call answers, from document 01, "What the viewer calls" and "Refusal numbers". Assumes nothing.
use Rattle.std.specs.Prelude.{ℕ, ◌*◌, ◌≤◌, ◌≡◌, cond, List, ◌++◌, eqb, leb, length, drop, Result, Ok, Err}
use Rattle.rules.specs.declared.config.Config.{Config}
use Rattle.rules.specs.declared.refusal.Refusal.{Refusal}
use Rattle.rules.specs.Config.{config_refusal}
use Rattle.trace.specs.Traces.{trace_fits}
use Rattle.listed.specs.Lists.{words_of}
use Rattle.passes.specs.Listed.{failures_of}

-- refusals 1, 2, 3, 4 and 8, in that order: "8: three words for each entry (failure or illegal start) exceed the list's slice"
unfoldable pub list_refusal : Config → List ℕ → List ℕ → ℕ
list_refusal c trace list =
    cond (eqb (config_refusal c) 0) (cond (trace_fits trace) (cond (leb (3 * length (failures_of c trace)) (length list)) 0 8) 4) (config_refusal c)

-- the number of entries in an answer; refused: "every other number answered is 0"
abbrev pub count_of : Result ℕ Refusal → ℕ
count_of (Ok count) = count
count_of (Err _) = 0

-- not refused: the entries' words stand in front, "Later entries of the lent slice stay unaltered", and it answers how many entries there are; refused: the
-- slice is as it was and the count is 0. No cycle has more than 64 entries, so a caller may pack the count with other numbers.
pub record ListAnswer (c : Config) (trace list list' : List ℕ) (refusal count : ℕ) : Type 0 where
  pub refusal_is : refusal ≡ list_refusal c trace list
  pub done : refusal ≡ 0 → (count ≡ length (failures_of c trace)) × (list' ≡ words_of (failures_of c trace) ++ drop (3 * length (failures_of c trace)) list)
  pub refused : (refusal ≡ 0 → ⊥) → (count ≡ 0) × (list' ≡ list)
  pub few : count ≤ 64 * 65536
