-- `stability::step::tracked_at` meets its contract. Assumes nothing.
use mathlib.Core.Path.{subst}
use Rattle.rules.specs.declared.frame.Frame.{Frame}
use Rattle.stability.specs.Tracked.{Tracks}
use Rattle.stability.proofs.step.tracked_at.Goals as goal

pub returns : goal.returns
returns c = λ o.
    let s = c.before.before in
    subst (λ (f : Frame). Tracks s.args.c f c.tracked_in.result) c.frame_at.ensures (c.tracked_in.ensures o)
