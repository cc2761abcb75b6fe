-- `bench::table::step_all`: words and rows are what they become when the first k checkers are stepped. Assumes nothing.
use mathlib.Core.Path.{◌≡◌}
use Rattle.bench.proofs.Steps.{words_to, rows_to}
use Rattle.bench.proofs.table.step_all.Given as goal

abbrev pub invariant-loop-k : goal.invariant-loop-k
invariant-loop-k l = (l.words ≡ words_to l.table l.frames l.initial.words l.initial.rows l.k) × (l.rows ≡ rows_to l.table l.frames l.initial.words l.initial.rows l.k)
