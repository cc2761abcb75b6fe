use Rattle.dump_values.specs.Values.{connect_from}
use mathlib.Core.Path.{◌≡◌}
use Prim.Native.Nat.{◌-◌}
use Rattle.dump_values.proofs.table.connect.Given as goal

abbrev pub invariant-loop-e : goal.invariant-loop-e
invariant-loop-e l = connect_from l.initial.store l.n 0 129 ≡ connect_from l.store l.n l.e (129 - l.e)
