use Rattle.dump_change.specs.Change.{sample_from}
use mathlib.Core.Path.{◌≡◌}
use Prim.Native.Nat.{◌-◌}
use Rattle.dump_change.proofs.sample.sample.Given as goal

abbrev pub invariant-loop-j : goal.invariant-loop-j
invariant-loop-j l = sample_from l.store l.initial.frames l.k 0 8 ≡ sample_from l.store l.frames l.k l.j (8 - l.j)
