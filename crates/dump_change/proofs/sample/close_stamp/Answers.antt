use Rattle.dump_change.specs.Change.{closed, closed_frames}
use mathlib.Core.Path.{◌∙◌, sym}
use borrow.Author.Tests.{le-ltb, lt-ltb}
use Rattle.dump_change.proofs.sample.close_stamp.Goals as goal

pub returns-then-w-frames : goal.returns-then-w-frames
unfolding closed closed_frames
returns-then-w-frames c = (simp (c.with_frame.ensures, lt-ltb _ _ c.if-w-frames.true, sym c.clock_rises.ensures ∙ c.if-clock_rises.true, sym c.clock_rises.ensures), simp (c.sample.ensures, lt-ltb _ _ c.if-w-frames.true, sym c.clock_rises.ensures ∙ c.if-clock_rises.true, sym c.clock_rises.ensures))

pub returns-then-clock_rises : goal.returns-then-clock_rises
unfolding closed closed_frames
returns-then-clock_rises c = (simp (c.wave_at.ensures, le-ltb _ _ c.if-w-frames.false, sym c.clock_rises.ensures ∙ c.if-clock_rises.true, sym c.clock_rises.ensures), simp (le-ltb _ _ c.if-w-frames.false, sym c.clock_rises.ensures ∙ c.if-clock_rises.true, sym c.clock_rises.ensures))

pub returns : goal.returns
unfolding closed closed_frames
returns c = (simp (sym c.clock_rises.ensures ∙ c.if-clock_rises.false), simp (sym c.clock_rises.ensures ∙ c.if-clock_rises.false))
