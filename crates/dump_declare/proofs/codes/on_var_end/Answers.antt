use Rattle.dump_declare.specs.Declare.{end_head, end_store}
use mathlib.Core.Path.{◌∙◌, sym}
use borrow.Author.Tests.{eq-eqb, ne_eqb}
use Rattle.dump_declare.proofs.codes.on_var_end.Goals as goal

pub returns-then-h-eq0 : goal.returns-then-h-eq0
unfolding end_head end_store
returns-then-h-eq0 c = (simp (c.declare.ensures.0, eq-eqb _ _ c.if-h-eq0.true, sym c.text_is.ensures ∙ c.if-text_is.true), simp (c.declare.ensures.1, eq-eqb _ _ c.if-h-eq0.true, sym c.text_is.ensures ∙ c.if-text_is.true))

pub returns-then-text_is : goal.returns-then-text_is
unfolding end_head end_store
returns-then-text_is c = (simp (c.at_place.ensures, ne_eqb _ _ c.if-h-eq0.false, sym c.text_is.ensures ∙ c.if-text_is.true), simp (ne_eqb _ _ c.if-h-eq0.false, sym c.text_is.ensures ∙ c.if-text_is.true))

pub returns : goal.returns
unfolding end_head end_store
returns c = (simp (c.at_place-2.ensures, sym c.text_is.ensures ∙ c.if-text_is.false), simp (sym c.text_is.ensures ∙ c.if-text_is.false))
