use Rattle.dump_declare.specs.Declare.{code_at}
use mathlib.Core.Path.{◌∙◌, sym}
use borrow.Author.Tests.{le-ltb, lt-ltb}
use Rattle.dump_declare.proofs.vars.code_at.Goals as goal

pub returns-then-i-n : goal.returns-then-i-n
unfolding code_at
returns-then-i-n c = simp (c.with_code.ensures, le-ltb _ _ c.if-i-n.true)

pub returns-then-code_agrees : goal.returns-then-code_agrees
unfolding code_at
returns-then-code_agrees c = simp (c.with_code-then-code_agrees.ensures, sym c.code_agrees.ensures ∙ c.if-code_agrees.true, lt-ltb _ _ c.if-i-n.false)

pub returns : goal.returns
unfolding code_at
returns c = simp (c.at_place.ensures, sym c.code_agrees.ensures ∙ c.if-code_agrees.false, lt-ltb _ _ c.if-i-n.false)
