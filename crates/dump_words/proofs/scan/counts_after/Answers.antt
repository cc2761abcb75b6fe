use Rattle.dump_words.specs.Gather.{counts_after}
use borrow.Author.Tests.{eq-eqb, ne_eqb}
use Rattle.dump_words.proofs.scan.counts_after.Goals as goal

pub returns-then-kind-eq0 : goal.returns-then-kind-eq0
unfolding counts_after
returns-then-kind-eq0 c = simp (eq-eqb _ _ c.if-kind-eq0.true)

pub returns-then-b-eq92 : goal.returns-then-b-eq92
unfolding counts_after
returns-then-b-eq92 c = simp (eq-eqb _ _ c.if-b-eq92.true, eq-eqb _ _ c.if-kind-eq1.true, ne_eqb _ _ c.if-kind-eq0.false)

pub returns-else-b-eq92 : goal.returns-else-b-eq92
unfolding counts_after
returns-else-b-eq92 c = simp (ne_eqb _ _ c.if-b-eq92.false, eq-eqb _ _ c.if-kind-eq1.true, ne_eqb _ _ c.if-kind-eq0.false)

pub returns-else-kind-eq1 : goal.returns-else-kind-eq1
unfolding counts_after
returns-else-kind-eq1 c = simp (ne_eqb _ _ c.if-kind-eq1.false, ne_eqb _ _ c.if-kind-eq0.false)
