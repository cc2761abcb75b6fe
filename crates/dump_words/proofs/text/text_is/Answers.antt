use Rattle.dump_words.specs.Gather.{text_is}
use borrow.Author.Tests.{eq-eqb, ne_eqb}
use Rattle.dump_words.proofs.text.text_is.Goals as goal

pub returns-then-t-k : goal.returns-then-t-k
unfolding text_is
returns-then-t-k c = simp (ne_eqb _ _ c.if-t-k.true)

pub returns-then-t-k-2 : goal.returns-then-t-k-2
unfolding text_is
returns-then-t-k-2 c = simp (ne_eqb _ _ c.if-t-k-2.true, eq-eqb _ _ c.if-t-k.false)

pub returns : goal.returns
unfolding text_is
returns c = simp (eq-eqb _ _ c.if-t-k-2.false, eq-eqb _ _ c.if-t-k.false)
