use Rattle.dump_declare.specs.Declare.{declaration_head, declaration_store}
use mathlib.Core.Path.{◌∙◌, sym}
use borrow.Author.Tests.{le-ltb, lt-ltb}
use Rattle.dump_declare.proofs.place.declaration.Goals as goal

pub returns-then-h-lt7 : goal.returns-then-h-lt7
unfolding declaration_head declaration_store
returns-then-h-lt7 c = (simp (c.in_command.ensures, lt-ltb _ _ c.if-h-lt7.true), simp (lt-ltb _ _ c.if-h-lt7.true))

pub returns-then-ends_var : goal.returns-then-ends_var
unfolding declaration_head declaration_store
returns-then-ends_var c = (simp (c.on_var_end.ensures.0, sym c.ends_var.ensures ∙ c.if-ends_var.true, le-ltb _ _ c.if-h-lt7.false), simp (c.on_var_end.ensures.1, sym c.ends_var.ensures ∙ c.if-ends_var.true, le-ltb _ _ c.if-h-lt7.false))

pub returns : goal.returns
unfolding declaration_head declaration_store
returns c = (simp (c.in_var.ensures, sym c.ends_var.ensures ∙ c.if-ends_var.false, le-ltb _ _ c.if-h-lt7.false), simp (sym c.ends_var.ensures ∙ c.if-ends_var.false, le-ltb _ _ c.if-h-lt7.false))
