use Rattle.dump_declare.specs.Declare.{on_comment}
use mathlib.Core.Path.{◌∙◌, sym}
use Rattle.dump_declare.proofs.commands.on_comment.Goals as goal

pub returns-then-text_is : goal.returns-then-text_is
unfolding on_comment
returns-then-text_is c = simp (c.at_place.ensures, sym c.text_is.ensures ∙ c.if-text_is.true)

pub returns : goal.returns
unfolding on_comment
returns c = simp (sym c.text_is.ensures ∙ c.if-text_is.false)
