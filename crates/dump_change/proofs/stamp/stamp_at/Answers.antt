use Rattle.dump_change.specs.Change.{order_number, stamp_wave, stamp_store, stamp_frames}
use mathlib.Core.Path.{◌∙◌, sym, ap}
use Rattle.dump_change.proofs.stamp.stamp_at.Goals as goal

pub returns-in-Next : goal.returns-in-Next
unfolding stamp_wave stamp_store stamp_frames
returns-in-Next c = let e = sym c.stamp_order.ensures ∙ ap order_number c.in-Next.is in (simp (e, sym c.next_stamp.ensures.0), simp (e, c.next_stamp.ensures.1), simp (e, c.next_stamp.ensures.2))

pub returns-in-Equal : goal.returns-in-Equal
unfolding stamp_wave stamp_store stamp_frames
returns-in-Equal c = let e = sym c.stamp_order.ensures ∙ ap order_number c.in-Equal.is in (simp e, simp e, simp e)

pub returns-in-Back : goal.returns-in-Back
unfolding stamp_wave stamp_store stamp_frames
returns-in-Back c = let e = sym c.stamp_order.ensures ∙ ap order_number c.in-Back.is in (simp (e, c.wave_at.ensures), simp e, simp e)
