-- Runs of a step over the cycles of a trace, for any step: nothing here names a kind. Assumes nothing.
use Rattle.std.specs.Prelude.{ℕ, zero, suc, ◌≤◌, ◌<◌, ◌≡◌, cond, List, ltb, length, get_or}

module _ {F : Type 0} (next : ℕ → F → ℕ) (frame : ℕ → F) where
  -- The word before cycle t of a run that enters cycle a with the word w, "one step for each cycle": for t at most a it is w.
  unfoldable pub word_at : ℕ → ℕ → ℕ → ℕ
  word_at a w zero = w
  word_at a w (suc t) = cond (ltb t a) w (next (word_at a w t) (frame t))

-- the kept word before cycle t, which is entry t − 1: "before cycle 0 both are 0"
unfoldable pub kept_at : List ℕ → ℕ → ℕ
kept_at words zero = 0
kept_at words (suc t) = get_or words t 0

-- "It ends at e, the least cycle from b to N such that e is N or its word before e equals the kept one"
pub record Ends (own kept : ℕ → ℕ) (b n e : ℕ) : Type 0 where
  pub low : b ≤ e
  pub high : e ≤ n
  pub stops : e < n → own e ≡ kept e
  pub least : (t : ℕ) → b ≤ t → t < e → own t ≡ kept t → ⊥

-- "It writes a to e−1 only": there the entries are f's, all others are as before
pub record Written (f : ℕ → ℕ) (a e : ℕ) (before after : List ℕ) : Type 0 where
  pub same_length : length after ≡ length before
  pub below : (t : ℕ) → t < a → get_or after t 0 ≡ get_or before t 0
  pub within : (t : ℕ) → a ≤ t → t < e → get_or after t 0 ≡ f t
  pub beyond : (t : ℕ) → e ≤ t → get_or after t 0 ≡ get_or before t 0
