use Rattle.dump_words.specs.Gather.{scan_phase}
use borrow.Author.Tests.{eq-eqb, ne_eqb}
use Rattle.dump_words.proofs.scan.phase_of.Goals as goal

pub returns-then-n-eq3 : goal.returns-then-n-eq3
unfolding scan_phase
returns-then-n-eq3 c = simp (eq-eqb _ _ c.if-n-eq3.true)

pub returns-else-n-eq3 : goal.returns-else-n-eq3
unfolding scan_phase
returns-else-n-eq3 c = simp (ne_eqb _ _ c.if-n-eq3.false)
