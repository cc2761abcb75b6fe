-- Bytes that stand from a place on, as the code writes them. Assumes nothing.
use Rattle.std.specs.Prelude.{ℕ, ◌+◌, ◌/◌, ◌%◌, ◌≡◌, List, [], ◌∷◌, length}
use Rattle.std.proofs.lemmas.List.Edits.{sets}

-- The bytes stand from `at` on, `next` is the place behind them, and nothing else is altered.
pub record Put (text out : List ℕ) (at : ℕ) (out' : List ℕ) (next : ℕ) : Type 0 where
  pub next_is : next ≡ at + length text
  pub out_is : out' ≡ sets out at text

-- two digits, the first of which may be 0
abbrev pub pair : ℕ → List ℕ
pair n = (48 + n / 10) ∷ (48 + n % 10) ∷ []
