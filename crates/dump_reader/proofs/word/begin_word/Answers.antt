use Rattle.dump_reader.specs.Machine.{begun}
use borrow.Author.Tests.{eq-eqb, ne_eqb}
use Rattle.dump_reader.proofs.word.begin_word.Goals as goal

pub returns-then-place-eq20 : goal.returns-then-place-eq20
unfolding begun
returns-then-place-eq20 c = simp (c.begin_change.ensures, eq-eqb _ _ c.if-place-eq20.true)

pub returns-then-place-eq8 : goal.returns-then-place-eq8
unfolding begun
returns-then-place-eq8 c = simp (c.number_word.ensures, c.add_digit.ensures, eq-eqb _ _ c.if-place-eq8.true, ne_eqb _ _ c.if-place-eq20.false)

pub returns-then-place-eq10 : goal.returns-then-place-eq10
unfolding begun
returns-then-place-eq10 c = simp (c.name_word.ensures, eq-eqb _ _ c.if-place-eq10.true, ne_eqb _ _ c.if-place-eq8.false, ne_eqb _ _ c.if-place-eq20.false)

pub returns-then-place-eq11 : goal.returns-then-place-eq11
unfolding begun
returns-then-place-eq11 c = simp (c.range_word.ensures, eq-eqb _ _ c.if-place-eq11.true, ne_eqb _ _ c.if-place-eq10.false, ne_eqb _ _ c.if-place-eq8.false, ne_eqb _ _ c.if-place-eq20.false)

pub returns : goal.returns
unfolding begun
returns c = simp (c.text_word.ensures, ne_eqb _ _ c.if-place-eq11.false, ne_eqb _ _ c.if-place-eq10.false, ne_eqb _ _ c.if-place-eq8.false, ne_eqb _ _ c.if-place-eq20.false)
