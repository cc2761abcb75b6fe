use Rattle.dump_declare.specs.Declare.{on_scope_type}
use mathlib.Core.Path.{◌∙◌, sym}
use Rattle.dump_declare.proofs.commands.on_scope_type.Goals as goal

pub returns-then-is_one_of : goal.returns-then-is_one_of
unfolding on_scope_type
returns-then-is_one_of c = simp (c.at_place.ensures, sym c.is_one_of.ensures ∙ c.if-is_one_of.true)

pub returns : goal.returns
unfolding on_scope_type
returns c = simp (c.at_place-2.ensures, sym c.is_one_of.ensures ∙ c.if-is_one_of.false)
