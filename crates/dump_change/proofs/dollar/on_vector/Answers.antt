use Rattle.dump_change.specs.Change.{on_vector}
use borrow.Author.Tests.{eq-eqb, ne_eqb}
use Rattle.dump_change.proofs.dollar.on_vector.Goals as goal

pub returns-then-count-eq0 : goal.returns-then-count-eq0
unfolding on_vector
returns-then-count-eq0 c = simp (c.wave_at.ensures, eq-eqb _ _ c.if-count-eq0.true)

pub returns-then-wrong-ne0 : goal.returns-then-wrong-ne0
unfolding on_vector
returns-then-wrong-ne0 c = simp (c.wave_at-then-wrong-ne0.ensures, ne_eqb _ _ c.if-wrong-ne0.true, ne_eqb _ _ c.if-count-eq0.false)

pub returns : goal.returns
unfolding on_vector
returns c = simp (eq-eqb _ _ c.if-wrong-ne0.false, ne_eqb _ _ c.if-count-eq0.false)
