-- `sequence::step::ended_of` meets its contract. Assumes nothing.
use mathlib.Core.Path.{refl}
use Rattle.sequence.proofs.step.ended_of.Goals as goal

pub returns : goal.returns
returns c = refl
