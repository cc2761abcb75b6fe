use Rattle.dump_reader.specs.Machine.{add_byte}
use mathlib.Core.Path.{sym}
use borrow.Author.Tests.{eq-eqb, ne_eqb}
use Rattle.dump_reader.proofs.piece.word_byte.Goals as goal

pub returns-then-r-eq0 : goal.returns-then-r-eq0
unfolding add_byte
returns-then-r-eq0 c = λ store frames. simp (c.begin_word-word.ensures, sym c.place_of.ensures, eq-eqb _ _ c.if-r-eq0.true)

pub returns : goal.returns
unfolding add_byte
returns c = λ store frames. simp (sym c.add_byte-word.ensures.0, c.add_byte-word.ensures.1, ne_eqb _ _ c.if-r-eq0.false)
