use Rattle.dump_declare.specs.Declare.{on_width}
use borrow.Author.Tests.{le-ltb, lt-ltb, eq-eqb, ne_eqb}
use Rattle.dump_declare.proofs.vars.on_width.Goals as goal

pub returns-then-n-eq2 : goal.returns-then-n-eq2
unfolding on_width
returns-then-n-eq2 c = simp (c.at_place.ensures, eq-eqb _ _ c.if-n-eq2.true)

pub returns-then-n-ne1 : goal.returns-then-n-ne1
unfolding on_width
returns-then-n-ne1 c = simp (c.at_place-then-n-ne1.ensures, ne_eqb _ _ c.if-n-ne1.true, ne_eqb _ _ c.if-n-eq2.false)

pub returns-then-n-eq0 : goal.returns-then-n-eq0
unfolding on_width
returns-then-n-eq0 c = simp (c.at_place-then-n-eq0.ensures, eq-eqb _ _ c.if-n-eq0.true, eq-eqb _ _ c.if-n-ne1.false, ne_eqb _ _ c.if-n-eq2.false)

pub returns-then-n-gt4096 : goal.returns-then-n-gt4096
unfolding on_width
returns-then-n-gt4096 c = simp (c.at_place-then-n-gt4096.ensures, lt-ltb _ _ c.if-n-gt4096.true, ne_eqb _ _ c.if-n-eq0.false, eq-eqb _ _ c.if-n-ne1.false, ne_eqb _ _ c.if-n-eq2.false)

pub returns : goal.returns
unfolding on_width
returns c = simp (c.with_width.ensures, le-ltb _ _ c.if-n-gt4096.false, ne_eqb _ _ c.if-n-eq0.false, eq-eqb _ _ c.if-n-ne1.false, ne_eqb _ _ c.if-n-eq2.false)
