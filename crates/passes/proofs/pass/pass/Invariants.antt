-- `passes::pass::pass` meets its contract. The loop's invariant: the word is the one before cycle t, and what is to be done is done for the cycles before t.
-- The measure is what is left of the trace. Assumes nothing.
use Rattle.std.proofs.Common.{◌-◌, ◌≤◌}
use Rattle.trace.specs.Traces.{frames, frame_at}
use Rattle.blocks.specs.Blocks.{Passing}
use Rattle.passes.proofs.pass.pass.Given as goal

abbrev pub invariant-loop-t : goal.invariant-loop-t
invariant-loop-t g l = (l.t ≤ frames l.trace) × Passing l.c l.trace l.t l.word × g.V.Visit.does l.c (frame_at l.trace) 0 l.t l.initial.list 0 l.list l.at

abbrev pub decreases-loop-t : goal.decreases-loop-t
decreases-loop-t g l = l.cycles - l.t
