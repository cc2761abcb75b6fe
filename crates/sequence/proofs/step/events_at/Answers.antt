-- `sequence::step::events_at` meets its contract. Assumes nothing.
use mathlib.Core.Path.{subst}
use Rattle.rules.specs.declared.frame.Frame.{Frame}
use Rattle.sequence.specs.Events.{Sees}
use Rattle.sequence.proofs.step.events_at.Goals as goal

pub returns : goal.returns
returns c =
    let s = c.before.before in
    subst (λ (f : Frame). Sees s.args.c f c.events_in.result) c.frame_at.ensures c.events_in.ensures
