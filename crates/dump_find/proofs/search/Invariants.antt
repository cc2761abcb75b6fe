use Rattle.dump.specs.Declarations.{index_of}
use mathlib.Core.Path.{◌≡◌}
use Prim.Native.Nat.{◌+◌}
use lib.ListN.{take, drop}
use Rattle.dump_find.proofs.search.Given as goal

abbrev pub invariant-loop-i : goal.invariant-loop-i
invariant-loop-i l = index_of (take l.n l.store) l.x ≡ l.i + index_of (drop l.i (take l.n l.store)) l.x
