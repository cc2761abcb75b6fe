-- `transition::step::known_at` meets its contract. Assumes nothing.
use mathlib.Core.Path.{subst}
use Rattle.rules.specs.declared.frame.Frame.{Frame}
use Rattle.transition.specs.Ports.{Tells}
use Rattle.transition.proofs.step.known_at.Goals as goal

pub returns : goal.returns
returns c =
    let s = c.before.before in
    subst (λ (f : Frame). Tells s.args.c f c.known_in.result) c.frame_at.ensures c.known_in.ensures
