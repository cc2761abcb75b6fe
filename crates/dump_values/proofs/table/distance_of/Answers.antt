use Rattle.dump_values.specs.Values.{apart}
use borrow.Author.Tests.{le-ltb, lt-ltb}
use Rattle.dump_values.proofs.table.distance_of.Goals as goal

pub returns-then-a-b : goal.returns-then-a-b
unfolding apart
returns-then-a-b c = simp (lt-ltb _ _ c.if-a-b.true)

pub returns : goal.returns
unfolding apart
returns c = simp (le-ltb _ _ c.if-a-b.false)
