use Rattle.dump_declare.specs.Declare.{agrees}
use borrow.Author.Tests.{eq-eqb, ne_eqb}
use Rattle.dump_declare.proofs.vars.code_agrees.Goals as goal

pub returns-then-store-i : goal.returns-then-store-i
unfolding agrees
returns-then-store-i c = simp (ne_eqb _ _ c.if-store-i.true)

pub returns-then-store-i-eq2 : goal.returns-then-store-i-eq2
unfolding agrees
returns-then-store-i-eq2 c = simp (eq-eqb _ _ c.if-store-i-eq2.true, eq-eqb _ _ c.if-store-i.false)

pub returns : goal.returns
unfolding agrees
returns c = simp (ne_eqb _ _ c.if-store-i-eq2.false, eq-eqb _ _ c.if-store-i.false)
