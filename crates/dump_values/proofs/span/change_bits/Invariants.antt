use Rattle.dump_values.specs.Values.{change_from}
use mathlib.Core.Path.{◌≡◌}
use Prim.Native.Nat.{◌-◌}
use Rattle.dump_values.proofs.span.change_bits.Given as goal

abbrev pub invariant-loop-e : goal.invariant-loop-e
invariant-loop-e l = change_from l.initial.store l.digits l.count l.x l.from (l.to - l.from) ≡ change_from l.store l.digits l.count l.x l.e (l.to - l.e)
