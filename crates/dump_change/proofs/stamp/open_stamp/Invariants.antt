use Rattle.dump_change.specs.Change.{open_from}
use mathlib.Core.Path.{◌≡◌}
use Prim.Native.Nat.{◌-◌}
use Rattle.dump_change.proofs.stamp.open_stamp.Given as goal

abbrev pub invariant-loop-j : goal.invariant-loop-j
invariant-loop-j l = open_from l.initial.store 0 8 ≡ open_from l.store l.j (8 - l.j)
