-- `marks_args::wires::put_wire` meets its contract: two stores. Assumes nothing.
use mathlib.Core.Path.{refl}
use Rattle.marks_args.specs.Wires.{with_wire}
use Rattle.marks_args.proofs.wires.put_wire.Goals as goal

pub returns : goal.returns
unfolding with_wire
returns c = refl
