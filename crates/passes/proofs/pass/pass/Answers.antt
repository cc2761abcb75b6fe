-- `passes::pass::pass` meets its contract. The loop's invariant: the word is the one before cycle t, and what is to be done is done for the cycles before t.
-- The measure is what is left of the trace. Assumes nothing.
use Prim.Native.Nat.{zero-le}
use mathlib.Core.Path.{◌≡◌}
use Rattle.trace.specs.Traces.{frames, frame_at}
use Rattle.passes.proofs.Whole.{place-fits, left-falls, all-passed, passing-none}
use Rattle.passes.proofs.pass.pass.Goals as goal

pub loop-t-init : goal.loop-t-init
loop-t-init g c =
    let a = c.args in (
      zero-le,
      passing-none a.c a.trace.now c.requires.0 c.requires.1,
      g.met.V.Visit.none a.c (frame_at a.trace.now) a.list.now,
    )

pub run_block-block-requires : goal.run_block-block-requires
unfolding frames
run_block-block-requires g c =
    (c.loop-t.invariant.1, rw c.frames_in-cycles.ensures at c.loop-t-test.true)

pub visit-at-requires : goal.visit-at-requires
visit-at-requires g c =
    let a = c.args in
    let run = c.run_block-block in (
      c.loop-t.invariant.1,
      run.ensures.0,
      g.met.V.Visit.fits a.c (frame_at a.trace.now) (frames a.trace.now) c.loop-t.t run.result.cycles a.list.now c.loop-t.list c.loop-t.at run.ensures.0.in_trace
          c.requires.1 c.requires.2 c.loop-t.invariant.2,
    )

pub overflow_add-t : goal.overflow_add-t
overflow_add-t g c =
    place-fits c.run_block-block.ensures.0.in_trace c.loop-t.invariant.1.short

pub loop-t-smaller : goal.loop-t-smaller
loop-t-smaller g c =
    let run = c.run_block-block in
    left-falls c.frames_in-cycles.result c.loop-t.t run.result.cycles c.loop-t-test.true run.ensures.2

pub loop-t-preserved : goal.loop-t-preserved
loop-t-preserved g c =
    let a = c.args in
    let run = c.run_block-block in (
      run.ensures.0.in_trace,
      run.ensures.1,
      g.met.V.Visit.more a.c (frame_at a.trace.now) c.loop-t.t run.result.cycles a.list.now c.loop-t.list _ c.loop-t.at c.visit-at.result c.loop-t.invariant.2
          c.visit-at.ensures,
    )

pub shape_of-list : goal.shape_of-list
shape_of-list g c =
    let a = c.args in
    g.met.V.Visit.as_long a.c (frame_at a.trace.now) 0 c.loop-t.t a.list.now c.loop-t.list 0 c.loop-t.at c.loop-t.invariant.2

pub returns : goal.returns
unfolding frames
returns g c =
    let at = c.loop-t in
    let all : at.t ≡ frames c.args.trace.now = all-passed (rw c.frames_in-cycles.ensures at c.loop-t-test.false) at.invariant.0 in
    rw all at at.invariant.2
