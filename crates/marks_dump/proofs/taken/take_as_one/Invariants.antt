-- `marks_dump::taken::take_as_one` meets its contract: the frames that are left, with their bits set in the frames as they are, give what is due. Assumes nothing.
use Prim.Native.Nat.{◌-◌}
use mathlib.Core.Path.{◌≡◌}
use Rattle.marks_dump.specs.Taken.{with_bits}
use Rattle.marks_dump.proofs.taken.take_as_one.Given as goal

abbrev pub invariant-loop-t : goal.invariant-loop-t
invariant-loop-t l = with_bits l.initial.frames 0 l.bits l.n ≡ with_bits l.frames l.t l.bits (l.n - l.t)
