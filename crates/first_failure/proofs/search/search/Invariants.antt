-- `first_failure::search::search` meets its contract. The outer loop keeps that no earlier cycle has a failing row, the inner one that no smaller checker has
-- one in this cycle. Assumes nothing.
use Rattle.std.proofs.Common.{ℕ, ◌<◌, ◌≡◌, T}
use Rattle.std.specs.Prelude.{None}
use Rattle.rules.specs.Rules.{failing}
use Rattle.first_failure.specs.Search.{row_at}
use Rattle.first_failure.proofs.search.search.Given as goal

abbrev pub invariant-search : goal.invariant-search
invariant-search l = record {
  nothing : l.found ≡ None;
  no_earlier : (k t : ℕ) → k < l.checkers → t < l.cycle → T (failing (row_at l.rows l.cycles k t)) → ⊥;
}

abbrev pub invariant-loop-checker : goal.invariant-loop-checker
invariant-loop-checker l = record {
  nothing : l.found ≡ None;
  no_earlier : (k t : ℕ) → k < l.checkers → t < l.cycle → T (failing (row_at l.rows l.cycles k t)) → ⊥;
  no_smaller : (k : ℕ) → k < l.checker → T (failing (row_at l.rows l.cycles k l.cycle)) → ⊥;
}
