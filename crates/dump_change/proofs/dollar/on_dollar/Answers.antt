use Rattle.dump_change.specs.Change.{on_dollar}
use mathlib.Core.Path.{◌∙◌, sym}
use borrow.Author.Tests.{eq-eqb, ne_eqb}
use Rattle.dump_change.proofs.dollar.on_dollar.Goals as goal

pub returns-then-w-ne0 : goal.returns-then-w-ne0
unfolding on_dollar
returns-then-w-ne0 c = simp (c.in_dump.ensures, ne_eqb _ _ c.if-w-ne0.true)

pub returns-then-is_one_of : goal.returns-then-is_one_of
unfolding on_dollar
returns-then-is_one_of c = simp (c.with_dumping.ensures, sym c.is_one_of.ensures ∙ c.if-is_one_of.true, eq-eqb _ _ c.if-w-ne0.false)

pub returns-then-text_is : goal.returns-then-text_is
unfolding on_dollar
returns-then-text_is c = simp (c.wave_at.ensures, sym c.text_is.ensures ∙ c.if-text_is.true, sym c.is_one_of.ensures ∙ c.if-is_one_of.false, eq-eqb _ _ c.if-w-ne0.false)

pub returns : goal.returns
unfolding on_dollar
returns c = simp (c.wave_at-2.ensures, sym c.text_is.ensures ∙ c.if-text_is.false, sym c.is_one_of.ensures ∙ c.if-is_one_of.false, eq-eqb _ _ c.if-w-ne0.false)
