-- `packed::search::packed_first_failure` meets its contract: the search's, with its numbers packed. Assumes nothing.
use native.Mathlib.Omega.{arith}
use Rattle.packed.proofs.Searches.{small, found-packed}
use Rattle.packed.proofs.search.packed_first_failure.Goals as goal

-- the checker and the cycle that were found are small
pub overflow_mul-result-in-Ok-Some : goal.overflow_mul-result-in-Ok-Some
overflow_mul-result-in-Ok-Some c =
    let a = c.args in
    omega (arith, small a.checkers a.cycles a.rows.now _ _ (rw c.in-Ok-Some.field-0-is at c.in-Ok-Some.ensures))

pub overflow_add-result : goal.overflow_add-result
overflow_add-result c =
    let a = c.args in
    omega (arith, small a.checkers a.cycles a.rows.now _ _ (rw c.in-Ok-Some.field-0-is at c.in-Ok-Some.ensures))

pub overflow_add-result-in-Ok-Some : goal.overflow_add-result-in-Ok-Some
overflow_add-result-in-Ok-Some c =
    let a = c.args in
    omega (arith, small a.checkers a.cycles a.rows.now _ _ (rw c.in-Ok-Some.field-0-is at c.in-Ok-Some.ensures))

pub returns-in-Ok-Some : goal.returns-in-Ok-Some
returns-in-Ok-Some c =
    let a = c.args in
    found-packed a.checkers a.cycles a.rows.now _ _ (rw c.in-Ok-Some.field-0-is at c.in-Ok-Some.ensures)
