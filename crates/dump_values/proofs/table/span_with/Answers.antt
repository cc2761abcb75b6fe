use Rattle.dump_values.specs.Values.{span_with}
use borrow.Author.Tests.{eq-eqb, ne_eqb}
use Rattle.dump_values.proofs.table.span_with.Goals as goal

pub returns-then-span-eq0 : goal.returns-then-span-eq0
unfolding span_with
returns-then-span-eq0 c = simp (eq-eqb _ _ c.if-span-eq0.true)

pub returns : goal.returns
unfolding span_with
returns c = simp (ne_eqb _ _ c.if-span-eq0.false)
