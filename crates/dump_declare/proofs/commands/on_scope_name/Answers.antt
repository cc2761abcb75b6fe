use Rattle.dump_declare.specs.Declare.{on_scope_name}
use mathlib.Core.Path.{◌∙◌, sym}
use Rattle.dump_declare.proofs.commands.on_scope_name.Goals as goal

pub returns-then-text_is : goal.returns-then-text_is
unfolding on_scope_name
returns-then-text_is c = simp (c.at_place.ensures, sym c.text_is.ensures ∙ c.if-text_is.true)

pub returns : goal.returns
unfolding on_scope_name
returns c = simp (c.at_place-2.ensures, sym c.text_is.ensures ∙ c.if-text_is.false)
