-- `signed_changes::changes::changes_of` meets its contract. The loop's invariant: the entries before i are the changes. A turn writes entry i and no other. The measure
-- is what is left of the entries. Assumes nothing.
use Prim.Native.Nat.{ℕ, ◌-◌, ◌≤◌, ◌<◌}
use mathlib.Core.Path.{◌≡◌}
use lib.IntN.{pos, sub_ℕ}
use lib.ListN.{length, get_or}
use Rattle.rules.specs.Rules.{marks}
use Rattle.signed_changes.proofs.changes.changes_of.Given as goal

abbrev pub invariant-loop-i : goal.invariant-loop-i
invariant-loop-i l = (l.i ≤ marks) × (length l.changes ≡ marks) × ((k : ℕ) → k < l.i → get_or l.changes k (pos 0) ≡ sub_ℕ (get_or l.counts k 0) 65536)

abbrev pub decreases-loop-i : goal.decreases-loop-i
decreases-loop-i l = marks - l.i
