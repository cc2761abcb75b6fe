-- `bus::range::Range::within` meets its contract: the second end is compared only where the first is low. Assumes nothing.
use borrow.Author.Tests.{le-leb, lt-leb}
use Rattle.bus.specs.Range.{within}
use Rattle.bus.proofs.range.Range.within.Goals as goal

pub returns-then-self-le31 : goal.returns-then-self-le31
unfolding within
returns-then-self-le31 c = simp (le-leb _ _ c.if-self-le31.true)

pub returns-else-self-le31 : goal.returns-else-self-le31
unfolding within
returns-else-self-le31 c = simp (lt-leb _ _ c.if-self-le31.false)
