use Rattle.dump_reader.specs.Machine.{range_scan}
use borrow.Author.Tests.{eq-eqb, ne_eqb}
use Rattle.dump_reader.proofs.word.range_word.Goals as goal

pub returns-then-b-eq91 : goal.returns-then-b-eq91
unfolding range_scan
returns-then-b-eq91 c = simp (c.scan_word.ensures, eq-eqb _ _ c.if-b-eq91.true)

pub returns : goal.returns
unfolding range_scan
returns c = simp (c.scan_word-2.ensures, ne_eqb _ _ c.if-b-eq91.false)
