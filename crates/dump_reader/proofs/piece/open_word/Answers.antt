use Rattle.dump_reader.specs.Runs.{open_word}
use borrow.Author.Tests.{eq-eqb, ne_eqb}
use Rattle.dump_reader.proofs.piece.open_word.Goals as goal

pub returns-then-held-eq0 : goal.returns-then-held-eq0
unfolding open_word
returns-then-held-eq0 c = simp (eq-eqb _ _ c.if-held-eq0.true)

pub returns : goal.returns
unfolding open_word
returns c = simp (ne_eqb _ _ c.if-held-eq0.false)
