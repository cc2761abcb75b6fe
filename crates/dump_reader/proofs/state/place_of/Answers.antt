use Rattle.dump_reader.specs.Machine.{place_of}
use borrow.Author.Tests.{eq-eqb, ne_eqb}
use Rattle.dump_reader.proofs.state.place_of.Goals as goal

pub returns-then-r-eq20 : goal.returns-then-r-eq20
unfolding place_of
returns-then-r-eq20 c = simp (eq-eqb _ _ c.if-r-eq20.true)

pub returns : goal.returns
unfolding place_of
returns c = simp (ne_eqb _ _ c.if-r-eq20.false)
