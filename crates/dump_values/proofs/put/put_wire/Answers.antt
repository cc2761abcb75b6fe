use lib.ListN.{length-set}
use Rattle.dump_values.specs.Values.{put_wire}
use native.Mathlib.Omega.{arith}
use Rattle.dump_values.proofs.put.put_wire.Goals as goal

pub bounds-store-w-4 : goal.bounds-store-w-4
bounds-store-w-4 c = simp length-set (omega (arith, c.requires.0, c.requires.1, c.requires.2))

pub returns : goal.returns
unfolding put_wire
returns c = simp (c.with_bit-y.ensures, c.with_bit-x.ensures)
