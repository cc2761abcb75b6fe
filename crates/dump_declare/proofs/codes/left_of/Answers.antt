use Rattle.dump_declare.specs.Declare.{left_of}
use borrow.Author.Tests.{le-ltb, lt-ltb}
use native.Mathlib.Omega.{arith}
use Rattle.dump_declare.proofs.codes.left_of.Goals as goal

pub returns-then-h-gt0 : goal.returns-then-h-gt0
unfolding left_of
returns-then-h-gt0 c = simp (lt-ltb _ _ c.if-h-gt0.true)

pub returns-then-h-eq0 : goal.returns-then-h-eq0
unfolding left_of
returns-then-h-eq0 c = simp (le-ltb _ _ c.if-h-gt0.false) (omega arith)

pub returns : goal.returns
unfolding left_of
returns c = simp (le-ltb _ _ c.if-h-gt0.false)
