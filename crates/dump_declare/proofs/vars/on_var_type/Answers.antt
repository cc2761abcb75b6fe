use Rattle.dump_declare.specs.Declare.{on_var_type}
use mathlib.Core.Path.{◌∙◌, sym}
use Rattle.dump_declare.proofs.vars.on_var_type.Goals as goal

pub returns-then-is_one_of : goal.returns-then-is_one_of
unfolding on_var_type
returns-then-is_one_of c = simp (c.with_type.ensures, sym c.is_one_of.ensures ∙ c.if-is_one_of.true)

pub returns-then-is_one_of-2 : goal.returns-then-is_one_of-2
unfolding on_var_type
returns-then-is_one_of-2 c = simp (c.with_type-then-is_one_of-2.ensures, sym c.is_one_of-2.ensures ∙ c.if-is_one_of-2.true, sym c.is_one_of.ensures ∙ c.if-is_one_of.false)

pub returns : goal.returns
unfolding on_var_type
returns c = simp (c.at_place.ensures, sym c.is_one_of-2.ensures ∙ c.if-is_one_of-2.false, sym c.is_one_of.ensures ∙ c.if-is_one_of.false)
