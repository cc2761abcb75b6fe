use Rattle.dump_find.specs.Find.{slot}
use mathlib.Core.Path.{refl}
use native.Mathlib.Omega.{arith}
use Rattle.dump_find.proofs.slot_of.Goals as goal

pub returns : goal.returns
unfolding slot
returns c = (refl, omega arith)
