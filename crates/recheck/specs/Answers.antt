-- The numbers of a recheck's answer, from document 01, "Refusal numbers": "A refusal writes nothing; every other number answered is 0". Assumes nothing.
use Rattle.std.specs.Prelude.{ℕ, List, ℤ, pos, Result, Ok, Err, replicate}
use Rattle.rules.specs.declared.refusal.Refusal.{Refusal}
use Rattle.rules.specs.Refusals.{refusal_of, cycle_of}
use Rattle.rules.specs.Rules.{marks}
use Rattle.recheck.specs.declared.edit.Rechecked.{Rechecked}
use Rattle.recheck.specs.declared.edit.RecheckResult.{RecheckResult}

abbrev pub end_of : Result Rechecked Refusal → ℕ
end_of (Ok done) = done.end
end_of (Err refusal) = 0

abbrev pub changes_of : Result Rechecked Refusal → List ℤ
changes_of (Ok done) = done.changes
changes_of (Err refusal) = replicate marks (pos 0)

-- all four, as the C host has them
abbrev pub numbers_of : Result Rechecked Refusal → RecheckResult
numbers_of answer = record { refusal = refusal_of answer; cycle = cycle_of answer; end = end_of answer; changes = changes_of answer }
