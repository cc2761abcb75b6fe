-- `config_ports::ports::is_unused` meets its contract, by computation. Assumes nothing.
use mathlib.Core.Path.{refl}
use Rattle.rules.specs.Config.{unused}
use Rattle.config_ports.proofs.ports.is_unused.Goals as goal

pub returns : goal.returns
unfolding unused
returns c = refl
