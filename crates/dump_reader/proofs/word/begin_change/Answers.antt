use Rattle.dump_reader.specs.Machine.{begun_change}
use borrow.Author.Tests.{eq-eqb, ne_eqb}
use Rattle.dump_reader.proofs.word.begin_change.Goals as goal

pub returns-then-b-eq35 : goal.returns-then-b-eq35
unfolding begun_change
returns-then-b-eq35 c = simp (c.number_word.ensures, eq-eqb _ _ c.if-b-eq35.true)

pub returns-then-b-eq98 : goal.returns-then-b-eq98
unfolding begun_change
returns-then-b-eq98 c = simp (eq-eqb _ _ c.if-b-eq98.true, ne_eqb _ _ c.if-b-eq35.false)

pub returns-then-b-eq66 : goal.returns-then-b-eq66
unfolding begun_change
returns-then-b-eq66 c = simp (eq-eqb _ _ c.if-b-eq66.true, ne_eqb _ _ c.if-b-eq98.false, ne_eqb _ _ c.if-b-eq35.false)

pub returns : goal.returns
unfolding begun_change
returns c = simp (c.text_word.ensures, ne_eqb _ _ c.if-b-eq66.false, ne_eqb _ _ c.if-b-eq98.false, ne_eqb _ _ c.if-b-eq35.false)
