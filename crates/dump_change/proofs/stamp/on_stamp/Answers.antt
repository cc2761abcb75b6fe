use Rattle.dump_change.specs.Change.{on_stamp, on_stamp_store, on_stamp_frames}
use mathlib.Core.Path.{sym}
use borrow.Author.Tests.{eq-eqb, ne_eqb}
use Rattle.dump_change.proofs.stamp.on_stamp.Goals as goal

pub returns-then-w-ne0 : goal.returns-then-w-ne0
unfolding on_stamp on_stamp_store on_stamp_frames
returns-then-w-ne0 c = (simp (c.wave_at.ensures, ne_eqb _ _ c.if-w-ne0.true), simp (ne_eqb _ _ c.if-w-ne0.true), simp (ne_eqb _ _ c.if-w-ne0.true))

pub returns-then-n-ne1 : goal.returns-then-n-ne1
unfolding on_stamp on_stamp_store on_stamp_frames
returns-then-n-ne1 c = (simp (c.wave_at-then-n-ne1.ensures, ne_eqb _ _ c.if-n-ne1.true, eq-eqb _ _ c.if-w-ne0.false), simp (ne_eqb _ _ c.if-n-ne1.true, eq-eqb _ _ c.if-w-ne0.false), simp (ne_eqb _ _ c.if-n-ne1.true, eq-eqb _ _ c.if-w-ne0.false))

pub returns : goal.returns
unfolding on_stamp on_stamp_store on_stamp_frames
returns c = (simp (sym c.stamp_at.ensures.0, eq-eqb _ _ c.if-n-ne1.false, eq-eqb _ _ c.if-w-ne0.false), simp (c.stamp_at.ensures.1, eq-eqb _ _ c.if-n-ne1.false, eq-eqb _ _ c.if-w-ne0.false), simp (c.stamp_at.ensures.2, eq-eqb _ _ c.if-n-ne1.false, eq-eqb _ _ c.if-w-ne0.false))
