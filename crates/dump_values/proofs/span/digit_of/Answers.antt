use Rattle.dump_values.specs.Values.{digit_of}
use borrow.Author.Tests.{le-ltb, lt-ltb}
use Rattle.dump_values.proofs.span.digit_of.Goals as goal

pub returns-then-k-count : goal.returns-then-k-count
unfolding digit_of
returns-then-k-count c = simp (lt-ltb _ _ c.if-k-count.true)

pub returns-then-digits-lt2 : goal.returns-then-digits-lt2
unfolding digit_of
returns-then-digits-lt2 c = simp (lt-ltb _ _ c.if-digits-lt2.true, le-ltb _ _ c.if-k-count.false)

pub returns : goal.returns
unfolding digit_of
returns c = simp (le-ltb _ _ c.if-digits-lt2.false, le-ltb _ _ c.if-k-count.false)
