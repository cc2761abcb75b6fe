-- `counts::rows::marks_in` meets its contract. The loop's invariant: the tally has the marks of the rows from `from` to at−1. A turn adds the next piece, of
-- two halves with a row at least in each, to the stretch before it. The measure is what is left of the rows. After the loop one row at most is left, and
-- where one is, it is the last. Assumes nothing.
use Prim.Native.Nat.{◌-◌, ◌≤◌}
use Rattle.counts.specs.Counts.{AreMarks}
use Rattle.counts.proofs.rows.marks_in.Given as goal

abbrev pub invariant-loop-at : goal.invariant-loop-at
invariant-loop-at l = (l.from ≤ l.at) × (l.at ≤ l.to) × AreMarks l.rows l.from l.at l.tally.counts

abbrev pub decreases-loop-at : goal.decreases-loop-at
decreases-loop-at l = l.to - l.at
