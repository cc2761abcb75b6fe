-- `waves_lines::change::put_mark` meets its contract: a mark that is as it was has no line. Assumes nothing.
use mathlib.Core.Path.{ap}
use native.Mathlib.Omega.{arith}
use lib.ListN.{length}
use Rattle.bits.proofs.Bits.{shifted_one}
use Rattle.waves_put.proofs.Putting.{put-none, put-length}
use Rattle.waves_lines.proofs.Lines.{same-mark, other-mark, small-mark}
use Rattle.waves_lines.proofs.change.put_mark.Goals as goal

pub returns-then-value-before : goal.returns-then-value-before
returns-then-value-before c =
    let a = c.args in
    rw (same-mark a.row a.before a.checker a.i c.if-value-before.true) (put-none a.out.now a.at)

pub put_change-requires : goal.put_change-requires
put_change-requires c =
    let a = c.args in
    rw (shifted_one a.i 32 (omega (arith, c.requires.1))) (
      omega arith,
      c.requires.0,
      small-mark a.i c.requires.1,
      omega (arith, c.requires.2, ap length (other-mark a.row a.before a.checker a.i c.if-value-before.false)),
    )

pub shape_of-out : goal.shape_of-out
shape_of-out c = put-length c.put_change.ensures

pub returns : goal.returns
returns c =
    let a = c.args in
    let put = rw (shifted_one a.i 32 (omega (arith, c.requires.1))) at c.put_change.ensures in
    rw (other-mark a.row a.before a.checker a.i c.if-value-before.false) put
