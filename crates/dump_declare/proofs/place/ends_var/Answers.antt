use Rattle.dump_declare.specs.Declare.{ends_var}
use borrow.Author.Tests.{le-ltb, lt-ltb, eq-eqb, ne_eqb}
use Rattle.dump_declare.proofs.place.ends_var.Goals as goal

pub returns-then-h-eq12 : goal.returns-then-h-eq12
unfolding ends_var
returns-then-h-eq12 c = simp (eq-eqb _ _ c.if-h-eq12.true)

pub returns-then-s-lt3 : goal.returns-then-s-lt3
unfolding ends_var
returns-then-s-lt3 c = simp (lt-ltb _ _ c.if-s-lt3.true, eq-eqb _ _ c.if-h-eq11.true, ne_eqb _ _ c.if-h-eq12.false)

pub returns-then-h-eq11 : goal.returns-then-h-eq11
unfolding ends_var
returns-then-h-eq11 c = simp (le-ltb _ _ c.if-s-lt3.false, eq-eqb _ _ c.if-h-eq11.true, ne_eqb _ _ c.if-h-eq12.false)

pub returns : goal.returns
unfolding ends_var
returns c = simp (ne_eqb _ _ c.if-h-eq11.false, ne_eqb _ _ c.if-h-eq12.false)
