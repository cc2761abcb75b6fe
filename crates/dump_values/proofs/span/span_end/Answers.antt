use Rattle.dump_values.specs.Values.{span_end}
use borrow.Author.Tests.{le-ltb, lt-ltb}
use native.Mathlib.Omega.{arith}
use Rattle.dump_values.proofs.span.span_end.Goals as goal

pub returns-then-to-lt129 : goal.returns-then-to-lt129
unfolding span_end
returns-then-to-lt129 c = (simp (lt-ltb _ _ c.if-to-lt129.true), omega arith)

pub returns : goal.returns
unfolding span_end
returns c = (simp (le-ltb _ _ c.if-to-lt129.false), omega arith)
