use Rattle.dump_reader.specs.Machine.{complete}
use borrow.Author.Tests.{eq-eqb, ne_eqb}
use Rattle.dump_reader.proofs.ending.is_complete.Goals as goal

pub returns-then-r-ne20 : goal.returns-then-r-ne20
unfolding complete
returns-then-r-ne20 c = simp (ne_eqb _ _ c.if-r-ne20.true)

pub returns-then-r-ne20-2 : goal.returns-then-r-ne20-2
unfolding complete
returns-then-r-ne20-2 c = simp (ne_eqb _ _ c.if-r-ne20-2.true, eq-eqb _ _ c.if-r-ne20.false)

pub returns : goal.returns
unfolding complete
returns c = simp (eq-eqb _ _ c.if-r-ne20-2.false, eq-eqb _ _ c.if-r-ne20.false)
