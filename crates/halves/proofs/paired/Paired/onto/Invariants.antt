-- `halves::paired::Paired::onto` meets its contract. The loop's invariant: the entries below i have both halves of their sum added, without the weight, and the
-- others are as they were. A turn writes entry i and no other. The measure is what is left of the entries. Assumes nothing.
use Prim.Native.Nat.{ℕ, ◌+◌, ◌/◌, ◌-◌, ◌^◌, ◌%◌}
use mathlib.Core.Path.{◌≡◌}
use mathlib.Core.List.{List}
use lib.ListN.{get_or}
use Rattle.rules.specs.Rules.{marks}
use Rattle.tally.proofs.Tallies.{Walked}
use Rattle.halves.proofs.paired.Paired.onto.Given as goal

abbrev pub Added : List ℕ → List ℕ → ℕ → ℕ → Type 0
Added sums old k n = n ≡ get_or old k 0 + (get_or sums k 0 / 2 ^ k % 65536 + get_or sums k 0 / 2 ^ k / 65536)

abbrev pub invariant-loop-i : goal.invariant-loop-i
invariant-loop-i l = Walked (Added l.sums l.initial.counts) l.initial.counts l.counts l.i

abbrev pub decreases-loop-i : goal.decreases-loop-i
decreases-loop-i l = marks - l.i
