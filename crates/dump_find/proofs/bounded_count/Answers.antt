use Rattle.dump_find.specs.Find.{bounded}
use borrow.Author.Tests.{le-ltb, lt-ltb}
use native.Mathlib.Omega.{arith}
use Rattle.dump_find.proofs.bounded_count.Goals as goal

pub returns-then-n-lt1024 : goal.returns-then-n-lt1024
unfolding bounded
returns-then-n-lt1024 c = (simp (lt-ltb _ _ c.if-n-lt1024.true), omega arith)

pub returns : goal.returns
unfolding bounded
returns c = (simp (le-ltb _ _ c.if-n-lt1024.false), omega arith)
