use mathlib.Core.Path.{◌∙◌, sym}
use borrow.Author.Tests.{eq-eqb, ne_eqb}
use Rattle.dump_state.specs.Pieces.{length_refusal}
use Rattle.dump_state.proofs.tests.length_refusal.Goals as goal

pub returns-then-table-eq0 : goal.returns-then-table-eq0
unfolding length_refusal
returns-then-table-eq0 c = simp (sym c.frames_fit.ensures ∙ c.if-frames_fit.true, eq-eqb _ _ c.if-table-eq0.true)

pub returns-then-frames_fit : goal.returns-then-frames_fit
unfolding length_refusal
returns-then-frames_fit c = simp (sym c.frames_fit.ensures ∙ c.if-frames_fit.true, ne_eqb _ _ c.if-table-eq0.false)

pub returns : goal.returns
unfolding length_refusal
returns c = simp (sym c.frames_fit.ensures ∙ c.if-frames_fit.false)
