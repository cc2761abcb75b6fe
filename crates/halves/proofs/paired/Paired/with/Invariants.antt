-- `halves::paired::Paired::with` meets its contract. The loop's invariant: the entries below i have the bit of both rows added, each in its half, and the others
-- are as they were. A turn writes entry i and no other. The measure is what is left of the entries. Assumes nothing.
use Prim.Native.Nat.{ℕ, ◌+◌, ◌*◌, ◌-◌, ◌^◌}
use mathlib.Core.Path.{◌≡◌}
use mathlib.Core.List.{List}
use lib.ListN.{get_or}
use Rattle.bits.specs.Bits.{to_bit, bit}
use Rattle.rules.specs.Rules.{marks}
use Rattle.tally.proofs.Tallies.{Walked}
use Rattle.halves.proofs.paired.Paired.with.Given as goal

abbrev pub Added : ℕ → ℕ → List ℕ → ℕ → ℕ → Type 0
Added low high old k n = n ≡ get_or old k 0 + (to_bit (bit high k) * 65536 + to_bit (bit low k)) * 2 ^ k

abbrev pub invariant-loop-i : goal.invariant-loop-i
invariant-loop-i l = Walked (Added l.low l.high l.initial.sums) l.initial.sums l.sums l.i

abbrev pub decreases-loop-i : goal.decreases-loop-i
decreases-loop-i l = marks - l.i
