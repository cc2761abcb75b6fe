use Rattle.dump_declare.specs.Declare.{on_command}
use mathlib.Core.Path.{◌∙◌, sym}
use Rattle.dump_declare.proofs.commands.on_command.Goals as goal

pub returns-then-is_one_of : goal.returns-then-is_one_of
unfolding on_command
returns-then-is_one_of c = simp (c.at_place.ensures, sym c.is_one_of.ensures ∙ c.if-is_one_of.true)

pub returns-then-text_is : goal.returns-then-text_is
unfolding on_command
returns-then-text_is c = simp (c.at_place-then-text_is.ensures, sym c.text_is.ensures ∙ c.if-text_is.true, sym c.is_one_of.ensures ∙ c.if-is_one_of.false)

pub returns-then-text_is-2 : goal.returns-then-text_is-2
unfolding on_command
returns-then-text_is-2 c = simp (c.open_scope.ensures, sym c.text_is-2.ensures ∙ c.if-text_is-2.true, sym c.text_is.ensures ∙ c.if-text_is.false, sym c.is_one_of.ensures ∙ c.if-is_one_of.false)

pub returns-then-text_is-3 : goal.returns-then-text_is-3
unfolding on_command
returns-then-text_is-3 c = simp (c.close_scope.ensures, sym c.text_is-3.ensures ∙ c.if-text_is-3.true, sym c.text_is-2.ensures ∙ c.if-text_is-2.false, sym c.text_is.ensures ∙ c.if-text_is.false, sym c.is_one_of.ensures ∙ c.if-is_one_of.false)

pub returns-then-text_is-4 : goal.returns-then-text_is-4
unfolding on_command
returns-then-text_is-4 c = simp (c.open_var.ensures, sym c.text_is-4.ensures ∙ c.if-text_is-4.true, sym c.text_is-3.ensures ∙ c.if-text_is-3.false, sym c.text_is-2.ensures ∙ c.if-text_is-2.false, sym c.text_is.ensures ∙ c.if-text_is.false, sym c.is_one_of.ensures ∙ c.if-is_one_of.false)

pub returns-then-text_is-5 : goal.returns-then-text_is-5
unfolding on_command
returns-then-text_is-5 c = simp (c.end_all.ensures, sym c.text_is-5.ensures ∙ c.if-text_is-5.true, sym c.text_is-4.ensures ∙ c.if-text_is-4.false, sym c.text_is-3.ensures ∙ c.if-text_is-3.false, sym c.text_is-2.ensures ∙ c.if-text_is-2.false, sym c.text_is.ensures ∙ c.if-text_is.false, sym c.is_one_of.ensures ∙ c.if-is_one_of.false)

pub returns : goal.returns
unfolding on_command
returns c = simp (c.at_place-2.ensures, sym c.text_is-5.ensures ∙ c.if-text_is-5.false, sym c.text_is-4.ensures ∙ c.if-text_is-4.false, sym c.text_is-3.ensures ∙ c.if-text_is-3.false, sym c.text_is-2.ensures ∙ c.if-text_is-2.false, sym c.text_is.ensures ∙ c.if-text_is.false, sym c.is_one_of.ensures ∙ c.if-is_one_of.false)
