-- `waves_lines::change::put_marks` meets its contract: behind i turns the lines of the marks from 2^i on are left. Assumes nothing.
use Prim.Native.Nat.{◌-◌, ◌≤◌}
use Rattle.waves.specs.Text.{each}
use Rattle.waves_put.proofs.Putting.{Putting}
use Rattle.waves_lines.specs.Lines.{mark_line, marks_text}
use Rattle.waves_lines.proofs.change.put_marks.Given as goal

abbrev pub invariant-loop-i : goal.invariant-loop-i
invariant-loop-i l = (l.i ≤ 6) × Putting (marks_text l.row l.before l.checker) l.initial.out l.at (each (mark_line l.row l.before l.checker) l.i (6 - l.i)) l.out l.next

abbrev pub decreases-loop-i : goal.decreases-loop-i
decreases-loop-i l = 6 - l.i
