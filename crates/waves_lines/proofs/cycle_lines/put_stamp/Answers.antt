-- `waves_lines::cycle_lines::put_stamp` meets its contract: three parts, one behind the other. Assumes nothing.
use native.Mathlib.Omega.{arith}
use lib.ListN.{length-set, length-append}
use Rattle.waves.specs.Text.{decimal}
use Rattle.waves_put.proofs.Putting.{put_one, put-length, put-more}
use Rattle.waves_lines.proofs.cycle_lines.put_stamp.Goals as goal

pub put_number-end-requires : goal.put_number-end-requires
put_number-end-requires c =
    let a = c.args in
    (c.requires.0, omega (arith, c.requires.1, length-append (decimal a.n) a.follows.now, length-set a.out.now a.at 35))

pub put_text-requires : goal.put_text-requires
put_text-requires c =
    let a = c.args in
    let number = c.put_number-end in
    omega (arith, c.requires.1, length-append (decimal a.n) a.follows.now, length-set a.out.now a.at 35, number.ensures.next_is, put-length number.ensures)

pub returns : goal.returns
returns c =
    let a = c.args in
    let number = c.put_number-end in
    put-more (put_one 35 a.out.now a.at) (put-more number.ensures c.put_text.ensures)

pub shape_of-out : goal.shape_of-out
shape_of-out c = put-length (returns c)
