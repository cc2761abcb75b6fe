use Rattle.dump_reader.proofs.Laws as laws
use Rattle.dump_reader.specs.Machine.{closed_word}
use borrow.Author.Tests.{eq-eqb}
use Rattle.dump_reader.proofs.piece.blank_byte.Goals as goal

pub returns-then-r-eq0 : goal.returns-then-r-eq0
unfolding closed_word
returns-then-r-eq0 c = simp (c.new_line.ensures, eq-eqb _ _ c.if-r-eq0.true)

pub returns : goal.returns
unfolding closed_word
returns c = simp c.new_line-2.ensures (laws.behind-word _ _ _ c.if-r-eq0.false c.end_word-s.ensures)
