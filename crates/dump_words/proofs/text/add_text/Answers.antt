use Rattle.dump_words.specs.Gather.{text_add}
use borrow.Author.Tests.{le-ltb, lt-ltb}
use Rattle.dump_words.proofs.text.add_text.Goals as goal

pub returns-then-n-lt8 : goal.returns-then-n-lt8
unfolding text_add
returns-then-n-lt8 c = simp (lt-ltb _ _ c.if-n-lt8.true, c.plain_after-plain.ensures)

pub returns-then-n-lt16 : goal.returns-then-n-lt16
unfolding text_add
returns-then-n-lt16 c = simp (lt-ltb _ _ c.if-n-lt16.true, le-ltb _ _ c.if-n-lt8.false, c.plain_after-plain.ensures)

pub returns : goal.returns
unfolding text_add
returns c = simp (le-ltb _ _ c.if-n-lt16.false, le-ltb _ _ c.if-n-lt8.false, c.plain_after-plain.ensures)
