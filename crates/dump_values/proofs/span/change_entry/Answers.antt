use Rattle.dump_values.specs.Values.{change_entry}
use borrow.Author.Tests.{eq-eqb, ne_eqb}
use Rattle.dump_values.proofs.span.change_entry.Goals as goal

pub returns-then-store-e : goal.returns-then-store-e
unfolding change_entry
returns-then-store-e c = simp (ne_eqb _ _ c.if-store-e.true)

pub returns : goal.returns
unfolding change_entry
returns c = simp (c.put_value.ensures, c.digit_of-v.ensures, eq-eqb _ _ c.if-store-e.false)
