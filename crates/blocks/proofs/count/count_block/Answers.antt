-- `blocks::count::count_block` meets its contract. The loop's invariant: the entries of the first i of the marked rows are counted. These rows have all
-- entries of the block. Assumes nothing.
use Prim.Native.Nat.{zero-le}
use mathlib.Core.Path.{◌≡◌, ap, ◌∙◌}
use native.Mathlib.Omega.{arith}
use lib.ListN.{length}
use Rattle.trace.specs.Traces.{frame_at}
use Rattle.blocks.proofs.Cycles.{counted-first, all-picked, picked-at, picked-in, picked-here, counted_next, block-entries}
use Rattle.blocks.proofs.count.count_block.Goals as goal

pub loop-k-init : goal.loop-k-init
loop-k-init c =
    let a = c.args in (counted-first a.c (frame_at a.trace.now) a.t a.buffers.now.picked, zero-le)

pub picked_cycle-cycle-requires : goal.picked_cycle-cycle-requires
picked_cycle-cycle-requires c =
    let w = picked-at c.requires.0 c.requires.1 c.loop-k.k-index c.loop-k-test.true in
    let h = picked-in c.requires.0 c.requires.1 c.loop-k.k-index w.0 in
    (rw w.1 at h.1, rw w.1 at h.2, h.3)

pub entries_in-count-requires : goal.entries_in-count-requires
entries_in-count-requires c =
    let cycle = c.picked_cycle-cycle in
    let w = picked-at c.requires.0 c.requires.1 c.loop-k.k-index c.loop-k-test.true in
    let h = picked-here c.requires.0 c.requires.1 c.loop-k.k-index w.0 cycle.result (rw w.1 cycle.ensures) in
    (h.0.ready, h.1)

pub loop-k-preserved : goal.loop-k-preserved
loop-k-preserved c =
    let at = c.loop-k in
    let cycle = c.picked_cycle-cycle in
    let w = picked-at c.requires.0 c.requires.1 at.k-index c.loop-k-test.true in
    let h = picked-here c.requires.0 c.requires.1 at.k-index w.0 cycle.result (rw w.1 cycle.ensures) in (
      counted_next c.requires.0 c.requires.1 at.k-index w.0 h.0 at.invariant.0 c.entries_in-count.ensures.0,
      omega (arith, at.invariant.1, c.entries_in-count.ensures.1),
    )

pub returns : goal.returns
returns c =
    let at = c.loop-k in
    let all : at.k-index ≡ c.args.block.marked = omega (arith, c.loop-k-test.false, all-picked c.requires.0 c.requires.1) in
    record { is = rw all at at.invariant.0 ∙ ap length (block-entries c.requires.0 c.requires.1); few = omega (arith, at.invariant.1, c.requires.1.picks.few) }
