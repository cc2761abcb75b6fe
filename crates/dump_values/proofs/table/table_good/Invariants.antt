use Rattle.dump_values.specs.Values.{good_from}
use mathlib.Core.Path.{◌≡◌}
use Prim.Native.Nat.{◌-◌}
use Rattle.dump_values.proofs.table.table_good.Given as goal

abbrev pub invariant-loop-e : goal.invariant-loop-e
invariant-loop-e l = good_from l.store l.n 0 129 ≡ good_from l.store l.n l.e (129 - l.e)
