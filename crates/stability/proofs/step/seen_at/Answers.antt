-- `stability::step::seen_at` meets its contract. Assumes nothing.
use mathlib.Core.Path.{subst}
use Rattle.rules.specs.declared.frame.Frame.{Frame}
use Rattle.stability.specs.Tracked.{Sees}
use Rattle.stability.proofs.step.seen_at.Goals as goal

pub returns : goal.returns
returns c =
    let s = c.before.before in
    subst (λ (f : Frame). Sees s.args.c f c.seen_in.result) c.frame_at.ensures c.seen_in.ensures
