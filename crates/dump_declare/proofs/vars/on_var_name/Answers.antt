use Rattle.dump_declare.specs.Declare.{on_var_name}
use mathlib.Core.Path.{◌∙◌, sym}
use borrow.Author.Tests.{eq-eqb, ne_eqb}
use Rattle.dump_declare.proofs.vars.on_var_name.Goals as goal

pub returns-then-text_is : goal.returns-then-text_is
unfolding on_var_name
returns-then-text_is c = simp (c.at_place.ensures, sym c.text_is.ensures ∙ c.if-text_is.true)

pub returns-then-h-eq1 : goal.returns-then-h-eq1
unfolding on_var_name
returns-then-h-eq1 c = simp (c.at_range.ensures, eq-eqb _ _ c.if-h-eq1.true, sym c.text_is.ensures ∙ c.if-text_is.false)

pub returns-then-s-eq4 : goal.returns-then-s-eq4
unfolding on_var_name
returns-then-s-eq4 c = simp (c.name_with.ensures, eq-eqb _ _ c.if-s-eq4.true, ne_eqb _ _ c.if-h-eq1.false, sym c.text_is.ensures ∙ c.if-text_is.false)

pub returns-then-s-ne3 : goal.returns-then-s-ne3
unfolding on_var_name
returns-then-s-ne3 c = simp (c.at_range-then-s-ne3.ensures, ne_eqb _ _ c.if-s-ne3.true, ne_eqb _ _ c.if-s-eq4.false, ne_eqb _ _ c.if-h-eq1.false, sym c.text_is.ensures ∙ c.if-text_is.false)

pub returns-then-h-ne1 : goal.returns-then-h-ne1
unfolding on_var_name
returns-then-h-ne1 c = simp (c.at_range-then-h-ne1.ensures, ne_eqb _ _ c.if-h-ne1.true, eq-eqb _ _ c.if-s-ne3.false, ne_eqb _ _ c.if-s-eq4.false, ne_eqb _ _ c.if-h-eq1.false, sym c.text_is.ensures ∙ c.if-text_is.false)

pub returns : goal.returns
unfolding on_var_name
returns c = simp (c.name_with-2.ensures, eq-eqb _ _ c.if-h-ne1.false, eq-eqb _ _ c.if-s-ne3.false, ne_eqb _ _ c.if-s-eq4.false, ne_eqb _ _ c.if-h-eq1.false, sym c.text_is.ensures ∙ c.if-text_is.false)
