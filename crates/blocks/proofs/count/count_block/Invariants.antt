-- `blocks::count::count_block` meets its contract. The loop's invariant: the entries of the first i of the marked rows are counted. These rows have all
-- entries of the block. Assumes nothing.
use Prim.Native.Nat.{◌*◌, ◌≤◌}
use mathlib.Core.Path.{◌≡◌}
use lib.ListN.{length, take}
use Rattle.trace.specs.Traces.{frame_at}
use Rattle.blocks.proofs.Cycles.{entries_of}
use Rattle.blocks.proofs.count.count_block.Given as goal

abbrev pub invariant-loop-k : goal.invariant-loop-k
invariant-loop-k l = (l.count ≡ length (entries_of l.c (frame_at l.trace) l.t (take l.k-index l.buffers.picked))) × (l.count ≤ 64 * l.k-index)
