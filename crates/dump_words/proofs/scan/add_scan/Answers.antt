use Rattle.dump_words.specs.Gather.{scan_add}
use borrow.Author.Tests.{eq-eqb, ne_eqb}
use Rattle.dump_words.proofs.scan.add_scan.Goals as goal

pub returns-then-s-eq1 : goal.returns-then-s-eq1
unfolding scan_add
returns-then-s-eq1 c = simp (eq-eqb _ _ c.if-s-eq1.true, eq-eqb _ _ c.if-b-eq91.true, c.counts_after.ensures)

pub returns-then-b-eq91 : goal.returns-then-b-eq91
unfolding scan_add
returns-then-b-eq91 c = simp (ne_eqb _ _ c.if-s-eq1.false, eq-eqb _ _ c.if-b-eq91.true, c.counts_after.ensures)

pub returns-then-s-eq1-2 : goal.returns-then-s-eq1-2
unfolding scan_add
returns-then-s-eq1-2 c = simp (c.add_left.ensures, eq-eqb _ _ c.if-s-eq1-2.true, ne_eqb _ _ c.if-b-eq91.false, c.counts_after.ensures)

pub returns-then-s-eq2 : goal.returns-then-s-eq2
unfolding scan_add
returns-then-s-eq2 c = simp (c.add_right.ensures, eq-eqb _ _ c.if-s-eq2.true, ne_eqb _ _ c.if-s-eq1-2.false, ne_eqb _ _ c.if-b-eq91.false, c.counts_after.ensures)

pub returns : goal.returns
unfolding scan_add
returns c = simp (ne_eqb _ _ c.if-s-eq2.false, ne_eqb _ _ c.if-s-eq1-2.false, ne_eqb _ _ c.if-b-eq91.false, c.counts_after.ensures)
