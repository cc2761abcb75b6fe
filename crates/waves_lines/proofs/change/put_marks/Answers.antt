-- `waves_lines::change::put_marks` meets its contract: behind i turns the lines of the marks from 2^i on are left. Assumes nothing.
use Prim.Native.Nat.{suc, ◌-◌}
use mathlib.Core.Path.{ap}
use native.Mathlib.Numerals.{add-one}
use native.Mathlib.Omega.{arith}
use lib.ListN.{length, length-append}
use Rattle.waves.specs.Text.{each}
use Rattle.waves.proofs.Each.{each_first, each_none}
use Rattle.waves_put.proofs.Putting.{putting-none, putting-length, putting-all, putting-room, putting-more}
use Rattle.waves_lines.specs.Lines.{mark_line, marks_text}
use Rattle.waves_lines.proofs.change.put_marks.Goals as goal

pub loop-i-init : goal.loop-i-init
unfolding marks_text
loop-i-init c = let a = c.args in (omega arith, putting-none (marks_text a.row a.before a.checker) a.out.now a.at)

pub put_mark-next-requires : goal.put_mark-next-requires
put_mark-next-requires c =
    let a = c.args in
    let l = c.loop-i in
    let f = mark_line a.row a.before a.checker in (
      c.requires.0,
      c.loop-i-test.true,
      omega (arith, putting-room l.invariant.1 c.requires.1, ap length (each_first f l.i 6 c.loop-i-test.true), length-append (f l.i) (each f (suc l.i) (6 - suc l.i))),
    )

pub loop-i-preserved : goal.loop-i-preserved
loop-i-preserved c =
    let a = c.args in
    let l = c.loop-i in
    rw (add-one l.i) (omega arith, putting-more l.invariant.1 (each_first (mark_line a.row a.before a.checker) l.i 6 c.loop-i-test.true) c.put_mark-next.ensures)

pub shape_of-out : goal.shape_of-out
shape_of-out c = putting-length c.loop-i.invariant.1

pub returns : goal.returns
returns c =
    let a = c.args in
    let l = c.loop-i in
    putting-all l.invariant.1 (each_none (mark_line a.row a.before a.checker) l.i 6 c.loop-i-test.false)
