use Rattle.dump_load.specs.Loading.{table_from}
use mathlib.Core.Path.{◌≡◌}
use Prim.Native.Nat.{◌-◌}
use Rattle.dump_load.proofs.begin.put_table.Given as goal

abbrev pub invariant-loop-k : goal.invariant-loop-k
invariant-loop-k l = table_from l.initial.store l.wires 0 258 ≡ table_from l.store l.wires l.k (258 - l.k)
