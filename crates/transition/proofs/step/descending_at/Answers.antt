-- `transition::step::descending_at` meets its contract. Assumes nothing.
use mathlib.Core.Path.{subst}
use Rattle.rules.specs.declared.frame.Frame.{Frame}
use Rattle.transition.specs.Ports.{Holds}
use Rattle.transition.proofs.step.descending_at.Goals as goal

pub returns : goal.returns
returns c =
    let s = c.before.before in
    subst (λ (f : Frame). Holds s.args.c f c.descending_in.result) c.frame_at.ensures c.descending_in.ensures
