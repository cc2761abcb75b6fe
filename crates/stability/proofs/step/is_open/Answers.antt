-- `stability::step::is_open` meets its contract. Assumes nothing.
use mathlib.Core.Path.{refl}
use Rattle.stability.specs.Tracked.{is_open_at}
use Rattle.stability.proofs.step.is_open.Goals as goal

pub returns : goal.returns
unfolding is_open_at
returns c = refl
