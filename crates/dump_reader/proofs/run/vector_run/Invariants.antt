use Rattle.dump_reader.specs.Runs.{vector_of, Gathers}
use Prim.Native.Nat.{◌≤◌}
use Rattle.dump_reader.proofs.run.vector_run.Given as goal

abbrev pub invariant-loop-i : goal.invariant-loop-i
invariant-loop-i l = (l.count ≤ 4096) × Gathers l.bytes (vector_of 0) l.from l.initial.digits (vector_of l.count) l.i l.digits
