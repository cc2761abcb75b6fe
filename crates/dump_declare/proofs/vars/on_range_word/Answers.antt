use Rattle.dump_declare.specs.Declare.{on_range_word}
use borrow.Author.Tests.{eq-eqb, ne_eqb}
use Rattle.dump_declare.proofs.vars.on_range_word.Goals as goal

pub returns-then-s-eq4 : goal.returns-then-s-eq4
unfolding on_range_word
returns-then-s-eq4 c = simp (c.range_with.ensures, eq-eqb _ _ c.if-s-eq4.true)

pub returns : goal.returns
unfolding on_range_word
returns c = simp (c.range_with-2.ensures, ne_eqb _ _ c.if-s-eq4.false)
