use lib.ListN.{length-set}
use Rattle.dump_declare.specs.Declare.{declare_again}
use borrow.Author.Tests.{eq-eqb, ne_eqb}
use native.Mathlib.Omega.{arith}
use Rattle.dump_declare.proofs.codes.declare_again.Goals as goal

pub returns-then-store-i-ne0 : goal.returns-then-store-i-ne0
unfolding declare_again
returns-then-store-i-ne0 c = simp (ne_eqb _ _ c.if-store-i-ne0.true)

pub returns-then-h-eq0 : goal.returns-then-h-eq0
unfolding declare_again
returns-then-h-eq0 c = simp (eq-eqb _ _ c.if-h-eq0.true, eq-eqb _ _ c.if-store-i-ne0.false)

pub bounds-store-i-3 : goal.bounds-store-i-3
bounds-store-i-3 c = simp length-set (omega (arith, c.requires.0, c.requires.1))

pub bounds-store-i-4 : goal.bounds-store-i-4
bounds-store-i-4 c = simp length-set (omega (arith, c.requires.0, c.requires.1))

pub returns : goal.returns
unfolding declare_again
returns c = simp (ne_eqb _ _ c.if-h-eq0.false, eq-eqb _ _ c.if-store-i-ne0.false)
