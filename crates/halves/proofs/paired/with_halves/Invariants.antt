-- `halves::paired::with_halves` meets its contract. The loop's invariant: each sum is its mark's weight times a word with two counts, of the first k rows of the
-- one half below and of the other above. These are fewer than 1,024 rows in a half, so one more of each fits. A turn adds row k of each half. The measure is
-- what is left of a half. After it the two counts are those of both halves, side by side in the rows, so together they are those of the whole.
-- Assumes nothing.
use Prim.Native.Nat.{ℕ, ◌+◌, ◌*◌, ◌-◌, ◌^◌, ◌<◌, ◌≤◌}
use mathlib.Core.Path.{◌≡◌}
use mathlib.Core.List.{List}
use lib.ListN.{get_or}
use Rattle.rules.specs.Rules.{marks}
use Rattle.halves.specs.Rows.{marks_in}
use Rattle.halves.proofs.paired.with_halves.Given as goal

-- the marks of the first k rows from a on
abbrev pub first : List ℕ → ℕ → ℕ → ℕ → ℕ
first rows a k i = marks_in rows i a (a + k)

abbrev pub invariant-loop-k : goal.invariant-loop-k
invariant-loop-k l = (l.k ≤ l.half) × ((i : ℕ) → i < marks → get_or l.paired.sums i 0 ≡ (first l.rows (l.from + l.half) l.k i * 65536 + first l.rows l.from l.k i) * 2 ^ i)

abbrev pub decreases-loop-k : goal.decreases-loop-k
decreases-loop-k l = l.half - l.k
