use Rattle.dump_reader.specs.Runs.{past_blank}
use borrow.Author.Tests.{le-ltb, lt-ltb, eq-eqb, ne_eqb}
use Rattle.dump_reader.proofs.changes.past_blank.Goals as goal

pub returns-then-c-lt18446744073709551615 : goal.returns-then-c-lt18446744073709551615
unfolding past_blank
returns-then-c-lt18446744073709551615 c = simp (lt-ltb _ _ c.if-c-lt18446744073709551615.true, eq-eqb _ _ c.if-b-eq10.true)

pub returns-then-b-eq10 : goal.returns-then-b-eq10
unfolding past_blank
returns-then-b-eq10 c = simp (le-ltb _ _ c.if-c-lt18446744073709551615.false, eq-eqb _ _ c.if-b-eq10.true)

pub returns : goal.returns
unfolding past_blank
returns c = simp (ne_eqb _ _ c.if-b-eq10.false)
