use Rattle.dump_change.specs.Change.{code_wave, code_store}
use mathlib.Core.Path.{sym}
use borrow.Author.Tests.{eq-eqb, ne_eqb}
use Rattle.dump_change.proofs.word.on_code.Goals as goal

pub returns-then-w-eq21 : goal.returns-then-w-eq21
unfolding code_wave code_store
returns-then-w-eq21 c = (simp (sym c.on_vector_code.ensures.0, eq-eqb _ _ c.if-w-eq21.true), simp (c.on_vector_code.ensures.1, eq-eqb _ _ c.if-w-eq21.true))

pub returns-then-w-eq22 : goal.returns-then-w-eq22
unfolding code_wave code_store
returns-then-w-eq22 c = (simp (c.on_real_code.ensures, eq-eqb _ _ c.if-w-eq22.true, ne_eqb _ _ c.if-w-eq21.false), simp (ne_eqb _ _ c.if-w-eq21.false))

pub returns-then-w-eq23 : goal.returns-then-w-eq23
unfolding code_wave code_store
returns-then-w-eq23 c = (simp (c.on_comment.ensures, eq-eqb _ _ c.if-w-eq23.true, ne_eqb _ _ c.if-w-eq22.false, ne_eqb _ _ c.if-w-eq21.false), simp (ne_eqb _ _ c.if-w-eq21.false))

pub returns : goal.returns
unfolding code_wave code_store
returns c = (simp (ne_eqb _ _ c.if-w-eq23.false, ne_eqb _ _ c.if-w-eq22.false, ne_eqb _ _ c.if-w-eq21.false), simp (ne_eqb _ _ c.if-w-eq21.false))
