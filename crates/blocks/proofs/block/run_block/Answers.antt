-- `blocks::block::run_block` meets its contract: the block is a stretch that `run` takes, with the two arrays as long as a block. Assumes nothing.
use Prim.Native.Nat.{◌+◌, ◌≤◌, ◌<◌}
use native.Mathlib.Omega.{arith}
use Rattle.trace.specs.Traces.{frames}
use Rattle.marked.specs.Picks.{block_cycles}
use Rattle.blocks.proofs.Runs.{block_fits, runnable, block-ran, passed}
use Rattle.blocks.proofs.block.run_block.Goals as goal

pub frames_in-requires : goal.frames_in-requires
frames_in-requires c = tt

pub overflow_sub-left : goal.overflow_sub-left
unfolding frames
overflow_sub-left c = omega (arith, c.requires.1)

pub run-reached-requires : goal.run-reached-requires
unfolding frames
run-reached-requires c =
    let h : (c.args.t + c.min-cycles.result ≤ frames c.args.trace.now) × (c.min-cycles.result ≤ block_cycles) × (0 < c.min-cycles.result) =
    block_fits (frames c.args.trace.now) c.args.t _ c.requires.1 (rw c.frames_in.ensures at c.min-cycles.ensures) in
    runnable c.requires.0 c.min-cycles.result c.args.buffers.now.rows c.args.buffers.now.words h.0 h.1 (omega arith) (omega arith)

pub pick_marked-marked-requires : goal.pick_marked-marked-requires
unfolding frames
pick_marked-marked-requires c =
    let h : (c.args.t + c.min-cycles.result ≤ frames c.args.trace.now) × (c.min-cycles.result ≤ block_cycles) × (0 < c.min-cycles.result) =
    block_fits (frames c.args.trace.now) c.args.t _ c.requires.1 (rw c.frames_in.ensures at c.min-cycles.ensures) in
    (h.1, omega arith)

pub returns : goal.returns
unfolding frames
returns c =
    let h : (c.args.t + c.min-cycles.result ≤ frames c.args.trace.now) × (c.min-cycles.result ≤ block_cycles) × (0 < c.min-cycles.result) =
    block_fits (frames c.args.trace.now) c.args.t _ c.requires.1 (rw c.frames_in.ensures at c.min-cycles.ensures) in
    let run = c.run-reached in (
      block-ran c.requires.0 c.min-cycles.result c.args.buffers.now.rows c.args.buffers.now.words h.0 h.1 run.ensures c.pick_marked-marked.ensures,
      passed c.requires.0 c.min-cycles.result c.args.buffers.now.rows c.args.buffers.now.words h.0 h.1 run.ensures,
      h.2,
    )
