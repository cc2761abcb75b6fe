-- `waves_put::number::put_small` meets its contract: a number below ten is one digit. Assumes nothing.
use mathlib.Core.Path.{ap}
use native.Mathlib.Omega.{arith}
use lib.ListN.{length}
use Rattle.waves_put.proofs.Decimals.{one-digit, two_digits}
use Rattle.waves_put.proofs.Putting.{put_one, put-length}
use Rattle.waves_put.proofs.number.put_small.Goals as goal

pub bounds-out-at : goal.bounds-out-at
bounds-out-at c = omega (arith, c.requires.1, ap length (one-digit c.args.n c.if-n-lt10.true))

pub returns-then-n-lt10 : goal.returns-then-n-lt10
returns-then-n-lt10 c = let a = c.args in rw (one-digit a.n c.if-n-lt10.true) (put_one _ a.out.now a.at)

pub put_pair-requires : goal.put_pair-requires
put_pair-requires c =
    (c.requires.0, omega (arith, c.requires.1, ap length (two_digits c.args.n c.if-n-lt10.false c.requires.0)))

pub shape_of-out : goal.shape_of-out
shape_of-out c = put-length c.put_pair.ensures

pub returns : goal.returns
returns c =
    rw (two_digits c.args.n c.if-n-lt10.false c.requires.0) c.put_pair.ensures
