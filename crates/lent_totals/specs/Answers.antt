-- What the totals in a lent slice answer, from document 01, "Refusal numbers". In which order the numbers stand there is for this crate to say,
-- and the header says it too. Assumes nothing.
use Rattle.std.specs.Prelude.{ℕ, ◌≡◌, cond, List, eqb, leb, length}
use Rattle.rules.specs.Rules.{marks}
use Rattle.counts.specs.Counts.{AreTotals}

-- Totals in a lent slice of one for each mark: 5 for a slice of another length, or for more than 65,536 rows
pub record HostTotals (rows counts counts' : List ℕ) (refusal : ℕ) : Type 0 where
  pub refusal_is : refusal ≡ cond (eqb (length counts) marks) (cond (leb (length rows) 65536) 0 5) 5
  pub done : refusal ≡ 0 → AreTotals rows counts'
  pub kept : (refusal ≡ 0 → ⊥) → counts' ≡ counts
