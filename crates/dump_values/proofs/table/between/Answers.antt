use Rattle.dump_values.specs.Values.{is_between_ends}
use borrow.Author.Tests.{le-ltb, lt-ltb}
use Rattle.dump_values.proofs.table.between.Goals as goal

pub returns-then-k-left : goal.returns-then-k-left
unfolding is_between_ends
returns-then-k-left c = simp (lt-ltb _ _ c.if-k-left.true, lt-ltb _ _ c.if-left-right.true)

pub returns-then-left-right : goal.returns-then-left-right
unfolding is_between_ends
returns-then-left-right c = simp (le-ltb _ _ c.if-k-left.false, lt-ltb _ _ c.if-left-right.true)

pub returns-then-k-right : goal.returns-then-k-right
unfolding is_between_ends
returns-then-k-right c = simp (lt-ltb _ _ c.if-k-right.true, le-ltb _ _ c.if-left-right.false)

pub returns : goal.returns
unfolding is_between_ends
returns c = simp (le-ltb _ _ c.if-k-right.false, le-ltb _ _ c.if-left-right.false)
