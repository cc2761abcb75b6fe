use Rattle.dump_declare.specs.Declare.{numbers_fit}
use borrow.Author.Tests.{eq-eqb, ne_eqb}
use Rattle.dump_declare.proofs.vars.numbers_fit.Goals as goal

pub returns-then-left-ne1 : goal.returns-then-left-ne1
unfolding numbers_fit
returns-then-left-ne1 c = simp (ne_eqb _ _ c.if-left-ne1.true)

pub returns-then-right-ne1 : goal.returns-then-right-ne1
unfolding numbers_fit
returns-then-right-ne1 c = simp (ne_eqb _ _ c.if-right-ne1.true, eq-eqb _ _ c.if-left-ne1.false)

pub returns : goal.returns
unfolding numbers_fit
returns c = simp (c.range_fits.ensures, eq-eqb _ _ c.if-right-ne1.false, eq-eqb _ _ c.if-left-ne1.false)
