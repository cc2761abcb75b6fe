-- `marked::pick::marks_of` meets its contract. The loop's invariant: the word is the number made of the rows passed, from the last of the 32 down. The measure is
-- what is left of them. Assumes nothing.
use Prim.Native.Nat.{ℕ, ◌+◌, ◌-◌, ◌≤◌}
use mathlib.Core.Path.{◌≡◌}
use Rattle.bits.specs.Bits.{number}
use Rattle.marked.specs.Picks.{marked}
use Rattle.marked.proofs.pick.marks_of.Given as goal

abbrev pub invariant-loop-i : goal.invariant-loop-i
invariant-loop-i l = (l.i ≤ 32) × (l.marks ≡ number l.i (λ (k : ℕ). marked l.rows (l.first + (31 - k))))

abbrev pub decreases-loop-i : goal.decreases-loop-i
decreases-loop-i l = 32 - l.i
