use Rattle.dump_change.specs.Change.{real_test}
use borrow.Author.Tests.{le-ltb, lt-ltb, eq-eqb, ne_eqb}
use Rattle.dump_change.proofs.digits.real_test.Goals as goal

pub returns-then-plain-ne1 : goal.returns-then-plain-ne1
unfolding real_test
returns-then-plain-ne1 c = simp (c.unknown_code.ensures, ne_eqb _ _ c.if-plain-ne1.true)

pub returns-then-i-n : goal.returns-then-i-n
unfolding real_test
returns-then-i-n c = simp (c.unknown_code-then-i-n.ensures, le-ltb _ _ c.if-i-n.true, eq-eqb _ _ c.if-plain-ne1.false)

pub returns-then-store-i-eq2 : goal.returns-then-store-i-eq2
unfolding real_test
returns-then-store-i-eq2 c = simp (c.wave_at.ensures, eq-eqb _ _ c.if-store-i-eq2.true, lt-ltb _ _ c.if-i-n.false, eq-eqb _ _ c.if-plain-ne1.false)

pub returns : goal.returns
unfolding real_test
returns c = simp (c.wave_at-2.ensures, ne_eqb _ _ c.if-store-i-eq2.false, lt-ltb _ _ c.if-i-n.false, eq-eqb _ _ c.if-plain-ne1.false)
