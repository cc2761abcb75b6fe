use Rattle.dump_reader.specs.Machine.{name_scan}
use borrow.Author.Tests.{eq-eqb, ne_eqb}
use Rattle.dump_reader.proofs.word.name_word.Goals as goal

pub returns-then-b-eq92 : goal.returns-then-b-eq92
unfolding name_scan
returns-then-b-eq92 c = simp (c.scan_word.ensures, eq-eqb _ _ c.if-b-eq92.true)

pub returns : goal.returns
unfolding name_scan
returns c = simp (c.scan_word-2.ensures, ne_eqb _ _ c.if-b-eq92.false)
