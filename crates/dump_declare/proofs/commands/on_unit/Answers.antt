use Rattle.dump_declare.specs.Declare.{on_unit}
use mathlib.Core.Path.{◌∙◌, sym}
use Rattle.dump_declare.proofs.commands.on_unit.Goals as goal

pub returns-then-is_one_of : goal.returns-then-is_one_of
unfolding on_unit
returns-then-is_one_of c = simp (c.at_place.ensures, sym c.is_one_of.ensures ∙ c.if-is_one_of.true)

pub returns : goal.returns
unfolding on_unit
returns c = simp (c.at_place-2.ensures, sym c.is_one_of.ensures ∙ c.if-is_one_of.false)
