use Rattle.dump_load.specs.Loading.{fits}
use borrow.Author.Tests.{eq-eqb, ne_eqb}
use Rattle.dump_load.proofs.load.frames_fit.Goals as goal

pub returns-then-words-ne0 : goal.returns-then-words-ne0
unfolding fits
returns-then-words-ne0 c = simp (ne_eqb _ _ c.if-words-ne0.true)

pub returns : goal.returns
unfolding fits
returns c = simp (eq-eqb _ _ c.if-words-ne0.false)
