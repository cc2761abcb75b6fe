use Rattle.dump_words.specs.Gather.{right_add}
use borrow.Author.Tests.{eq-eqb, ne_eqb}
use Rattle.dump_words.proofs.scan.add_right.Goals as goal

pub returns-then-s-eq0 : goal.returns-then-s-eq0
unfolding right_add
returns-then-s-eq0 c = simp (c.right_digit.ensures, eq-eqb _ _ c.if-s-eq0.true)

pub returns-then-b-eq93 : goal.returns-then-b-eq93
unfolding right_add
returns-then-b-eq93 c = simp (eq-eqb _ _ c.if-b-eq93.true, ne_eqb _ _ c.if-s-eq0.false)

pub returns : goal.returns
unfolding right_add
returns c = simp (c.right_digit-2.ensures, ne_eqb _ _ c.if-b-eq93.false, ne_eqb _ _ c.if-s-eq0.false)
