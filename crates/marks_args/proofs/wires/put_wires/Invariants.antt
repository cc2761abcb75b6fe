-- `marks_args::wires::put_wires` meets its contract: what is left to put, put into the table as it is, gives the table that is due.
-- Assumes nothing.
use Prim.Native.Nat.{◌-◌, ◌+◌}
use mathlib.Core.Path.{◌≡◌}
use Rattle.marks_args.specs.Wires.{with_wires}
use Rattle.marks_args.proofs.wires.put_wires.Given as goal

abbrev pub invariant-loop-k : goal.invariant-loop-k
invariant-loop-k l = with_wires l.initial.wires l.first l.code l.low l.count ≡ with_wires l.wires (l.first + l.k) l.code (l.low + l.k) (l.count - l.k)
