use Rattle.dump_declare.specs.Declare.{right_of}
use borrow.Author.Tests.{le-ltb, lt-ltb}
use Rattle.dump_declare.proofs.codes.right_of.Goals as goal

pub returns-then-h-gt0 : goal.returns-then-h-gt0
unfolding right_of
returns-then-h-gt0 c = simp (lt-ltb _ _ c.if-h-gt0.true)

pub returns : goal.returns
unfolding right_of
returns c = simp (le-ltb _ _ c.if-h-gt0.false)
