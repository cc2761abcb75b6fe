use Rattle.dump_change.specs.Change.{next_wave, next_store, next_frames}
use mathlib.Core.Path.{sym}
use borrow.Author.Tests.{eq-eqb, ne_eqb}
use Rattle.dump_change.proofs.stamp.next_stamp.Goals as goal

pub returns-then-r-eq116 : goal.returns-then-r-eq116
unfolding next_wave next_store next_frames
returns-then-r-eq116 c = (simp (eq-eqb _ _ c.if-r-eq116.true, sym c.close_stamp-r.ensures.0), simp (eq-eqb _ _ c.if-r-eq116.true, sym c.close_stamp-r.ensures.0), simp c.close_stamp-r.ensures.1)

pub returns : goal.returns
unfolding next_wave next_store next_frames
returns c = (simp (c.with_stamp.ensures, ne_eqb _ _ c.if-r-eq116.false, sym c.close_stamp-r.ensures.0), simp (c.open_stamp.ensures, ne_eqb _ _ c.if-r-eq116.false, sym c.close_stamp-r.ensures.0), simp c.close_stamp-r.ensures.1)
