-- Entries of the failure list from what the code finds them by, and entries that are written. Assumes nothing.
use Rattle.std.specs.Prelude.{ℕ, suc, ◌+◌, ◌-◌, ◌*◌, ◌≡◌, Bool, cond, List, [], ◌∷◌, ◌++◌, map, length}
use Rattle.std.proofs.lemmas.List.Edits.{sets}
use Rattle.bits.specs.Bits.{bit}
use Rattle.listed.specs.Lists.{Entry, entry, chosen, words_of}

-- the entries of the attempts that the bits of a word say failed: bit j is the attempt from t−1−j
unfoldable pub attempt_entries : ℕ → ℕ → List Entry
attempt_entries lost t = map (entry t 1) (chosen t (λ s. bit lost (t - suc s)))

-- the entries of a check from s that failed, or met an illegal start, or both
unfoldable pub window_entries : Bool → Bool → ℕ → ℕ → List Entry
window_entries failed illegal t s = cond failed (entry t 1 s ∷ []) [] ++ cond illegal (entry t 2 s ∷ []) []

-- The words of entries stand from `at` on, `next` is the place behind them, and nothing else is altered.
pub record Stored (es : List Entry) (list : List ℕ) (at : ℕ) (list' : List ℕ) (next : ℕ) : Type 0 where
  pub next_is : next ≡ at + 3 * length es
  pub list_is : list' ≡ sets list at (words_of es)
