-- `cycle::reset::is_enabled` meets its contract: out of reset only bit 1 is left to ask. Assumes nothing.
use mathlib.Core.Path.{refl}
use Rattle.bits.specs.Bits.{bit}
use Rattle.rules.specs.Frame.{enabled}
use Rattle.cycle.proofs.reset.is_enabled.Goals as goal

pub returns : goal.returns
unfolding enabled bit
returns c = rw (c.requires, c.sample.ensures) refl
