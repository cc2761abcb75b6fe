use Rattle.dump_reader.specs.Machine.{end_declaration, end_last, end_change, end_word, step}
use mathlib.Core.Path.{sym}
use borrow.Author.Tests.{eq-eqb, ne_eqb}
use Rattle.dump_reader.proofs.word_end.end_word.Goals as goal

pub returns-then-r-eq20 : goal.returns-then-r-eq20
unfolding end_declaration end_last end_change end_word step
returns-then-r-eq20 c = simp (sym c.end_change.ensures.0, c.end_change.ensures.1, c.end_change.ensures.2, eq-eqb _ _ c.if-r-eq20.true)

pub returns-then-r-eq13 : goal.returns-then-r-eq13
unfolding end_declaration end_last end_change end_word step
returns-then-r-eq13 c = simp (sym c.end_last.ensures.0, c.end_last.ensures.1, eq-eqb _ _ c.if-r-eq13.true, ne_eqb _ _ c.if-r-eq20.false)

pub returns : goal.returns
unfolding end_declaration end_last end_change end_word step
returns c = simp (sym c.end_declaration.ensures.0, c.end_declaration.ensures.1, ne_eqb _ _ c.if-r-eq13.false, ne_eqb _ _ c.if-r-eq20.false)
