-- `tally::tally::Tally::moved` meets its contract. The loop's invariant: the entries below i have the new count added and the old one taken off, and the
-- others are as they were. A turn writes entry i and no other. The measure is what is left of the entries. Assumes nothing.
use Prim.Native.Nat.{ℕ, ◌+◌, ◌-◌}
use mathlib.Core.Path.{◌≡◌}
use mathlib.Core.List.{List}
use lib.ListN.{get_or}
use Rattle.rules.specs.Rules.{marks}
use Rattle.tally.proofs.Tallies.{Walked}
use Rattle.tally.proofs.tally.Tally.moved.Given as goal

abbrev pub Moved : List ℕ → List ℕ → List ℕ → ℕ → ℕ → Type 0
Moved lost gained old k n = n + get_or lost k 0 ≡ get_or old k 0 + get_or gained k 0

abbrev pub invariant-loop-i : goal.invariant-loop-i
invariant-loop-i l = Walked (Moved l.lost l.gained l.initial.counts) l.initial.counts l.counts l.i

abbrev pub decreases-loop-i : goal.decreases-loop-i
decreases-loop-i l = marks - l.i
