use Rattle.dump_change.specs.Change.{on_comment}
use mathlib.Core.Path.{◌∙◌, sym}
use Rattle.dump_change.proofs.dollar.on_comment.Goals as goal

pub returns-then-text_is : goal.returns-then-text_is
unfolding on_comment
returns-then-text_is c = simp (c.wave_at.ensures, sym c.text_is.ensures ∙ c.if-text_is.true)

pub returns : goal.returns
unfolding on_comment
returns c = simp (sym c.text_is.ensures ∙ c.if-text_is.false)
