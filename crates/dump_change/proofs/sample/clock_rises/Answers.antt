use Rattle.dump_change.specs.Change.{rises}
use borrow.Author.Tests.{eq-eqb, ne_eqb}
use Rattle.dump_change.proofs.sample.clock_rises.Goals as goal

pub returns-then-w-eq0 : goal.returns-then-w-eq0
unfolding rises
returns-then-w-eq0 c = simp (eq-eqb _ _ c.if-w-eq0.true)

pub returns-then-store-ne0 : goal.returns-then-store-ne0
unfolding rises
returns-then-store-ne0 c = simp (ne_eqb _ _ c.if-store-ne0.true, ne_eqb _ _ c.if-w-eq0.false)

pub returns-then-store-ne1 : goal.returns-then-store-ne1
unfolding rises
returns-then-store-ne1 c = simp (ne_eqb _ _ c.if-store-ne1.true, eq-eqb _ _ c.if-store-ne0.false, ne_eqb _ _ c.if-w-eq0.false)

pub returns : goal.returns
unfolding rises
returns c = simp (eq-eqb _ _ c.if-store-ne1.false, eq-eqb _ _ c.if-store-ne0.false, ne_eqb _ _ c.if-w-eq0.false)
