-- `cycle_entries::kinds::trigger_cycle` meets its contract. Assumes nothing.
use mathlib.Core.Path.{refl}
use native.Mathlib.Omega.{arith}
use borrow.Author.Tests.{eq-eqb, ne_eqb}
use Rattle.cycle_entries.proofs.kinds.trigger_cycle.Goals as goal

pub overflow_sub-result : goal.overflow_sub-result
overflow_sub-result c = omega (arith, c.requires.3 (omega (arith, c.if-left-eq0.false)))

pub overflow_sub-result-else-left-eq0 : goal.overflow_sub-result-else-left-eq0
overflow_sub-result-else-left-eq0 c = omega (arith, c.requires.3 (omega (arith, c.if-left-eq0.false)))

pub returns-then-left-eq0 : goal.returns-then-left-eq0
returns-then-left-eq0 c = rw (eq-eqb _ 0 c.if-left-eq0.true) refl

pub returns-else-left-eq0 : goal.returns-else-left-eq0
returns-else-left-eq0 c = rw (ne_eqb _ 0 c.if-left-eq0.false) refl
