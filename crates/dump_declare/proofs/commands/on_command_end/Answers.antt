use Rattle.dump_declare.specs.Declare.{on_command_end}
use mathlib.Core.Path.{◌∙◌, sym}
use Rattle.dump_declare.proofs.commands.on_command_end.Goals as goal

pub returns-then-text_is : goal.returns-then-text_is
unfolding on_command_end
returns-then-text_is c = simp (c.at_place.ensures, sym c.text_is.ensures ∙ c.if-text_is.true)

pub returns : goal.returns
unfolding on_command_end
returns c = simp (c.at_place-2.ensures, sym c.text_is.ensures ∙ c.if-text_is.false)
