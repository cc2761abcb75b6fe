use Rattle.dump_change.specs.Change.{change_wave, change_store, change_frames}
use mathlib.Core.Path.{sym}
use borrow.Author.Tests.{eq-eqb, ne_eqb}
use Rattle.dump_change.proofs.word.on_change.Goals as goal

pub returns-then-class-eq2 : goal.returns-then-class-eq2
unfolding change_wave change_store change_frames
returns-then-class-eq2 c = (simp (sym c.on_stamp.ensures.0, eq-eqb _ _ c.if-class-eq2.true), simp (c.on_stamp.ensures.1, eq-eqb _ _ c.if-class-eq2.true), simp (c.on_stamp.ensures.2, eq-eqb _ _ c.if-class-eq2.true))

pub returns-then-class-eq4 : goal.returns-then-class-eq4
unfolding change_wave change_store change_frames
returns-then-class-eq4 c = (simp (c.on_vector.ensures, eq-eqb _ _ c.if-class-eq4.true, ne_eqb _ _ c.if-class-eq2.false), simp (eq-eqb _ _ c.if-class-eq4.true, ne_eqb _ _ c.if-class-eq2.false), simp (ne_eqb _ _ c.if-class-eq2.false))

pub returns : goal.returns
unfolding change_wave change_store change_frames
returns c = (simp (sym c.on_text.ensures.0, ne_eqb _ _ c.if-class-eq4.false, ne_eqb _ _ c.if-class-eq2.false), simp (c.on_text.ensures.1, ne_eqb _ _ c.if-class-eq4.false, ne_eqb _ _ c.if-class-eq2.false), simp (ne_eqb _ _ c.if-class-eq2.false))
