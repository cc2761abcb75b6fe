use Rattle.dump_reader.specs.Runs.{Goes}
use Prim.Native.Nat.{ℕ}
use mathlib.Core.List.{List}
use Prim.Native.Nat.{◌≤◌, ◌-◌}
use lib.ListN.{length}
use Rattle.dump_reader.proofs.changes.past_good.Given as goal

abbrev pub invariant-loop-c : goal.invariant-loop-c
invariant-loop-c l = (l.initial.c.at ≤ l.c.at) × (l.c.at ≤ length l.bytes) × ((f : List ℕ) → Goes l.n l.bytes l.initial.c l.initial.store l.initial.digits f l.c l.store l.digits f)

abbrev pub decreases-loop-c : goal.decreases-loop-c
decreases-loop-c l = length l.bytes - l.c.at
