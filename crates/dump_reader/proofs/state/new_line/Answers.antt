use Rattle.dump_reader.specs.Machine.{new_line}
use borrow.Author.Tests.{le-ltb, lt-ltb, eq-eqb, ne_eqb}
use Rattle.dump_reader.proofs.state.new_line.Goals as goal

pub returns-then-r-lt18446744073709551615 : goal.returns-then-r-lt18446744073709551615
unfolding new_line
returns-then-r-lt18446744073709551615 c = simp (lt-ltb _ _ c.if-r-lt18446744073709551615.true, eq-eqb _ _ c.if-b-eq10.true)

pub returns-then-b-eq10 : goal.returns-then-b-eq10
unfolding new_line
returns-then-b-eq10 c = simp (le-ltb _ _ c.if-r-lt18446744073709551615.false, eq-eqb _ _ c.if-b-eq10.true)

pub returns : goal.returns
unfolding new_line
returns c = simp (ne_eqb _ _ c.if-b-eq10.false)
