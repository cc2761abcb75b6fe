use Rattle.dump_words.specs.Gather.{plain_after}
use borrow.Author.Tests.{le-ltb, lt-ltb}
use Rattle.dump_words.proofs.text.plain_after.Goals as goal

pub returns-then-b-lt33 : goal.returns-then-b-lt33
unfolding plain_after
returns-then-b-lt33 c = simp (lt-ltb _ _ c.if-b-lt33.true)

pub returns-then-b-gt126 : goal.returns-then-b-gt126
unfolding plain_after
returns-then-b-gt126 c = simp (lt-ltb _ _ c.if-b-gt126.true, le-ltb _ _ c.if-b-lt33.false)

pub returns : goal.returns
unfolding plain_after
returns c = simp (le-ltb _ _ c.if-b-gt126.false, le-ltb _ _ c.if-b-lt33.false)
