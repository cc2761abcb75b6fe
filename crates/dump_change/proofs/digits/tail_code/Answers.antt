use Rattle.dump_change.specs.Change.{tail_code}
use mathlib.Core.Path.{refl}
use Rattle.dump_change.proofs.digits.tail_code.Goals as goal

pub returns : goal.returns
unfolding tail_code
returns c = refl
