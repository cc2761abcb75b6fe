use Rattle.dump_declare.specs.Declare.{name_with}
use mathlib.Core.Path.{◌∙◌, sym}
use Rattle.dump_declare.proofs.vars.name_with.Goals as goal

pub returns-then-numbers_fit : goal.returns-then-numbers_fit
unfolding name_with
returns-then-numbers_fit c = simp (c.at_range.ensures, sym c.numbers_fit.ensures ∙ c.if-numbers_fit.true)

pub returns : goal.returns
unfolding name_with
returns c = simp (c.at_range-2.ensures, sym c.numbers_fit.ensures ∙ c.if-numbers_fit.false)
