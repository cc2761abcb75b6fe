use borrow.Author.Tests.{eq-eqb, ne_eqb}
use Rattle.dump_state.specs.Pieces.{behind_end}
use Rattle.dump_pieces.proofs.ends.behind_end.Goals as goal

pub returns-then-answer-ne0 : goal.returns-then-answer-ne0
unfolding behind_end
returns-then-answer-ne0 c = simp (ne_eqb _ _ c.if-answer-ne0.true)

pub returns : goal.returns
unfolding behind_end
returns c = simp (eq-eqb _ _ c.if-answer-ne0.false)
