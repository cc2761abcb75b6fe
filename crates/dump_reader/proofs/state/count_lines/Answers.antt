use Rattle.dump_reader.specs.Machine.{count_lines}
use borrow.Author.Tests.{eq-eqb, ne_eqb}
use Rattle.dump_reader.proofs.state.count_lines.Goals as goal

pub returns-then-r-ne0 : goal.returns-then-r-ne0
unfolding count_lines
returns-then-r-ne0 c = simp (ne_eqb _ _ c.if-r-ne0.true)

pub returns-then-r-ne0-2 : goal.returns-then-r-ne0-2
unfolding count_lines
returns-then-r-ne0-2 c = simp (ne_eqb _ _ c.if-r-ne0-2.true, eq-eqb _ _ c.if-r-ne0.false)

pub returns : goal.returns
unfolding count_lines
returns c = simp (c.saturating_sub.ensures, eq-eqb _ _ c.if-r-ne0-2.false, eq-eqb _ _ c.if-r-ne0.false)
