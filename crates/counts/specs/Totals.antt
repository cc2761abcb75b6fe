-- The counts of an answer of the totals, from document 01, "Refusal numbers": "every other number answered is 0". Assumes nothing.
use Rattle.std.specs.Prelude.{ℕ, Result, Ok, Err, List, replicate}
use Rattle.rules.specs.declared.refusal.Refusal.{Refusal}
use Rattle.rules.specs.Rules.{marks}

-- a count for each mark; refused: 0 of each
abbrev pub counts_of : Result (List ℕ) Refusal → List ℕ
counts_of (Ok counts) = counts
counts_of (Err _) = replicate marks 0
