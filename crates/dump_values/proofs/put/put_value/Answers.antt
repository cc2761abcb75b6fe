use Rattle.dump_values.specs.Values.{put_at}
use borrow.Author.Tests.{eq-eqb, ne_eqb}
use Rattle.dump_values.proofs.put.put_value.Goals as goal

pub returns-then-e-eq0 : goal.returns-then-e-eq0
unfolding put_at
returns-then-e-eq0 c = simp (eq-eqb _ _ c.if-e-eq0.true)

pub returns : goal.returns
unfolding put_at
returns c = simp (c.put_wire.ensures, ne_eqb _ _ c.if-e-eq0.false)
