-- `bench::table::test_all`: none of the first k checkers is bad. Assumes nothing.
use Rattle.std.proofs.Common.{ℕ, ◌≡◌, ◌<◌, length}
use Rattle.bench.specs.Bench.{refusal_at}
use Rattle.bench.proofs.table.test_all.Given as goal

abbrev pub invariant-loop-k : goal.invariant-loop-k
invariant-loop-k l = (j : ℕ) → j < length l.yielded → refusal_at l.table l.words j ≡ 0
