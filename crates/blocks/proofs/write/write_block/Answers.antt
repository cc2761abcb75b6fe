-- `blocks::write::write_block` meets its contract. The loop's invariant: the entries of the first i of the marked rows are stored from `at` on. These rows have
-- all entries of the block. Assumes nothing.
use mathlib.Core.Path.{◌≡◌, subst}
use mathlib.Core.List.{List}
use native.Mathlib.Omega.{arith}
use Rattle.trace.specs.Traces.{frame_at}
use Rattle.listed.specs.Lists.{Entry}
use Rattle.entries.specs.Entries.{Stored}
use Rattle.entries.proofs.Stored.{stored-length}
use Rattle.blocks.proofs.Cycles.{stored-first, all-picked, picked-at, picked-in, picked-here, stored_next, row_fits, block-entries}
use Rattle.blocks.proofs.write.write_block.Goals as goal

pub loop-k-init : goal.loop-k-init
loop-k-init c =
    let a = c.args in
    stored-first a.c (frame_at a.trace.now) a.t a.buffers.now.picked a.list.now a.at

pub picked_cycle-cycle-requires : goal.picked_cycle-cycle-requires
picked_cycle-cycle-requires c =
    let w = picked-at c.requires.0 c.requires.1 c.loop-k.k-index c.loop-k-test.true in
    let h = picked-in c.requires.0 c.requires.1 c.loop-k.k-index w.0 in
    (rw w.1 at h.1, rw w.1 at h.2, h.3)

pub write_entries-next-requires : goal.write_entries-next-requires
write_entries-next-requires c =
    let at = c.loop-k in
    let cycle = c.picked_cycle-cycle in
    let w = picked-at c.requires.0 c.requires.1 at.k-index c.loop-k-test.true in
    let h = picked-here c.requires.0 c.requires.1 at.k-index w.0 cycle.result (rw w.1 cycle.ensures) in
    (h.0.ready, h.1, row_fits c.requires.0 c.requires.1 at.k-index w.0 h.0 at.invariant c.requires.2)

pub loop-k-preserved : goal.loop-k-preserved
loop-k-preserved c =
    let at = c.loop-k in
    let cycle = c.picked_cycle-cycle in
    let w = picked-at c.requires.0 c.requires.1 at.k-index c.loop-k-test.true in
    let h = picked-here c.requires.0 c.requires.1 at.k-index w.0 cycle.result (rw w.1 cycle.ensures) in
    stored_next c.requires.0 c.requires.1 at.k-index w.0 h.0 at.invariant c.write_entries-next.ensures

pub shape_of-list : goal.shape_of-list
shape_of-list c = stored-length c.loop-k.invariant

pub returns : goal.returns
returns c =
    let at = c.loop-k in
    let all : at.k-index ≡ c.args.block.marked = omega (arith, c.loop-k-test.false, all-picked c.requires.0 c.requires.1) in
    subst (λ (es : List Entry). Stored es c.args.list.now c.args.at at.list at.next) (block-entries c.requires.0 c.requires.1) (rw all at at.invariant)
