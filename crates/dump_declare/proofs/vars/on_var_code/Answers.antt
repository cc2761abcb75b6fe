use Rattle.dump_declare.specs.Declare.{on_var_code}
use mathlib.Core.Path.{◌∙◌, sym}
use borrow.Author.Tests.{le-ltb, lt-ltb, eq-eqb, ne_eqb}
use Rattle.dump_declare.proofs.vars.on_var_code.Goals as goal

pub returns-then-t-gt8 : goal.returns-then-t-gt8
unfolding on_var_code
returns-then-t-gt8 c = simp (c.at_place.ensures, lt-ltb _ _ c.if-t-gt8.true)

pub returns-then-text_is : goal.returns-then-text_is
unfolding on_var_code
returns-then-text_is c = simp (c.at_place-then-text_is.ensures, sym c.text_is.ensures ∙ c.if-text_is.true, le-ltb _ _ c.if-t-gt8.false)

pub returns-then-t-ne1 : goal.returns-then-t-ne1
unfolding on_var_code
returns-then-t-ne1 c = simp (c.at_place-then-t-ne1.ensures, ne_eqb _ _ c.if-t-ne1.true, sym c.text_is.ensures ∙ c.if-text_is.false, le-ltb _ _ c.if-t-gt8.false)

pub returns : goal.returns
unfolding on_var_code
returns c = simp (c.code_at.ensures, c.find-i.ensures, c.bounded_count-n.ensures.0, eq-eqb _ _ c.if-t-ne1.false, sym c.text_is.ensures ∙ c.if-text_is.false, le-ltb _ _ c.if-t-gt8.false)
