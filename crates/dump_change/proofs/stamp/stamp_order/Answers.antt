use Rattle.dump_change.specs.Change.{stamp_order}
use borrow.Author.Tests.{le-ltb, lt-ltb, eq-eqb, ne_eqb}
use Rattle.dump_change.proofs.stamp.stamp_order.Goals as goal

pub returns-then-w-eq0 : goal.returns-then-w-eq0
unfolding stamp_order
returns-then-w-eq0 c = simp (eq-eqb _ _ c.if-w-eq0.true)

pub returns-then-v-w : goal.returns-then-v-w
unfolding stamp_order
returns-then-v-w c = simp (lt-ltb _ _ c.if-v-w.true, ne_eqb _ _ c.if-w-eq0.false)

pub returns-then-v-w-2 : goal.returns-then-v-w-2
unfolding stamp_order
returns-then-v-w-2 c = simp (eq-eqb _ _ c.if-v-w-2.true, le-ltb _ _ c.if-v-w.false, ne_eqb _ _ c.if-w-eq0.false)

pub returns : goal.returns
unfolding stamp_order
returns c = simp (ne_eqb _ _ c.if-v-w-2.false, le-ltb _ _ c.if-v-w.false, ne_eqb _ _ c.if-w-eq0.false)
