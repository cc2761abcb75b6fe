-- `waves_lines::header::put_header` meets its contract: behind j turns the lines of the wires from j on and the end are left. Assumes nothing.
use Prim.Native.Nat.{◌-◌, ◌*◌, ◌≤◌}
use mathlib.Core.Path.{◌≡◌}
use mathlib.Core.List.{◌++◌}
use Rattle.waves.specs.Text.{text, each}
use Rattle.waves.specs.Waves.{header}
use Rattle.waves_put.proofs.Putting.{Putting}
use Rattle.waves_lines.proofs.Lines.{wire_text, closed}
use Rattle.waves_lines.proofs.header.put_header.Given as goal

abbrev pub invariant-loop-j : goal.invariant-loop-j
invariant-loop-j l = (l.j ≤ l.wires) × (l.wires ≡ 6 * l.checkers) × Putting (text (header l.checkers)) l.fn.out l.at (each wire_text l.j (6 * l.checkers - l.j) ++ closed) l.out l.next

abbrev pub decreases-loop-j : goal.decreases-loop-j
decreases-loop-j l = l.wires - l.j
