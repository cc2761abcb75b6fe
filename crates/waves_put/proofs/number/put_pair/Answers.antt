-- `waves_put::number::put_pair` meets its contract: two stores, one behind the other. Assumes nothing.
use Prim.Native.Nat.{◌+◌, ◌/◌}
use mathlib.Core.Path.{refl}
use native.Mathlib.Numerals.{add-one}
use native.Mathlib.Omega.{arith}
use lib.ListN.{length-set}
use Rattle.waves_put.proofs.number.put_pair.Goals as goal

pub bounds-out-at-2 : goal.bounds-out-at-2
bounds-out-at-2 c = let a = c.args in omega (arith, c.requires.1, length-set a.out.now a.at (48 + a.n / 10))

pub returns : goal.returns
returns c = record { next_is = refl; out_is = rw (add-one c.args.at) }
