-- `waves_lines::cycle_lines::put_cycle` meets its contract: behind k turns the lines of the checkers from k on and the end are left. Assumes nothing.
use Prim.Native.Nat.{◌-◌, ◌≤◌}
use mathlib.Core.List.{◌++◌}
use Rattle.waves.specs.Text.{text, each}
use Rattle.waves.specs.Waves.{cycle_lines}
use Rattle.waves_put.proofs.Putting.{Putting}
use Rattle.waves_lines.proofs.Cycles.{checker_text, rising}
use Rattle.waves_lines.proofs.cycle_lines.put_cycle.Given as goal

abbrev pub invariant-loop-k : goal.invariant-loop-k
invariant-loop-k l = (l.k ≤ l.checkers) × Putting (text (cycle_lines l.checkers l.cycles l.rows l.t)) l.fn.out l.at (each (checker_text l.cycles l.rows l.t) l.k (l.checkers - l.k) ++ rising l.t) l.out l.next

abbrev pub decreases-loop-k : goal.decreases-loop-k
decreases-loop-k l = l.checkers - l.k
