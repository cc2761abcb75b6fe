use Rattle.dump_declare.specs.Declare.{sort_of}
use borrow.Author.Tests.{le-ltb, lt-ltb, eq-eqb, ne_eqb}
use Rattle.dump_declare.proofs.codes.sort_of.Goals as goal

pub returns-then-h-eq1 : goal.returns-then-h-eq1
unfolding sort_of
returns-then-h-eq1 c = simp (eq-eqb _ _ c.if-h-eq1.true)

pub returns-then-h-gt0 : goal.returns-then-h-gt0
unfolding sort_of
returns-then-h-gt0 c = simp (lt-ltb _ _ c.if-h-gt0.true, ne_eqb _ _ c.if-h-eq1.false)

pub returns : goal.returns
unfolding sort_of
returns c = simp (le-ltb _ _ c.if-h-gt0.false, ne_eqb _ _ c.if-h-eq1.false)
