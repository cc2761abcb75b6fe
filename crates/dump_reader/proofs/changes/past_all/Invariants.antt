use Rattle.dump_reader.specs.Runs.{Goes}
use Prim.Native.Nat.{◌≤◌, ◌-◌}
use lib.ListN.{length}
use Rattle.dump_reader.proofs.changes.past_all.Given as goal

abbrev pub invariant-loop-c : goal.invariant-loop-c
invariant-loop-c l = (l.initial.c.at ≤ l.c.at) × (l.c.at ≤ length l.bytes) × Goes l.n l.bytes l.initial.c l.initial.store l.initial.digits l.initial.frames l.c l.store l.digits l.frames

abbrev pub decreases-loop-c : goal.decreases-loop-c
decreases-loop-c l = length l.bytes - l.c.at
