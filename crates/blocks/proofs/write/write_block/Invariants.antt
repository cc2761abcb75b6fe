-- `blocks::write::write_block` meets its contract. The loop's invariant: the entries of the first i of the marked rows are stored from `at` on. These rows have
-- all entries of the block. Assumes nothing.
use lib.ListN.{take}
use Rattle.trace.specs.Traces.{frame_at}
use Rattle.entries.specs.Entries.{Stored}
use Rattle.blocks.proofs.Cycles.{entries_of}
use Rattle.blocks.proofs.write.write_block.Given as goal

abbrev pub invariant-loop-k : goal.invariant-loop-k
invariant-loop-k l = Stored (entries_of l.c (frame_at l.trace) l.t (take l.k-index l.buffers.picked)) l.initial.list l.at l.list l.next
