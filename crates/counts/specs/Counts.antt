-- Counts of marks over rows, from document 01, "Totals" and "Recheck". Assumes nothing.
use Rattle.std.specs.Prelude.{ℕ, ◌<◌, ◌≡◌, cond, List, leb, ℤ, length, get_or}
use Rattle.std.proofs.Math.IntN.{sub_ℕ}
use Rattle.rules.specs.Rules.{marks}
use Rattle.halves.specs.Rows.{marks_in}

-- "new count less old count over a to e−1"
unfoldable pub change : List ℕ → List ℕ → ℕ → ℕ → ℕ → ℤ
change new old i a e = sub_ℕ (marks_in new i a e) (marks_in old i a e)

-- the counts of the rows of cycles a to e−1, one for each mark
pub record AreMarks (rows : List ℕ) (a e : ℕ) (counts : List ℕ) : Type 0 where
  pub all_marks : length counts ≡ marks
  pub are : (i : ℕ) → i < marks → get_or counts i 0 ≡ marks_in rows i a e

-- "the rows with that bit set", for each mark
abbrev pub AreTotals : List ℕ → List ℕ → Type 0
AreTotals rows counts = AreMarks rows 0 (length rows) counts

-- "over up to 65,536 rows (more is refusal 5)"; refused: every count is 0
pub record TotalsAnswer (rows : List ℕ) (refusal : ℕ) (counts : List ℕ) : Type 0 where
  pub refusal_is : refusal ≡ cond (leb (length rows) 65536) 0 5
  pub all_marks : length counts ≡ marks
  pub done : refusal ≡ 0 → AreTotals rows counts
  pub refused : (refusal ≡ 0 → ⊥) → (i : ℕ) → i < marks → get_or counts i 0 ≡ 0
