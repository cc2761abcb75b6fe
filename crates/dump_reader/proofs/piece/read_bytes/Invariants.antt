use Rattle.dump_reader.specs.Machine.{All, feed}
use mathlib.Core.Path.{◌≡◌}
use Prim.Native.Nat.{◌≤◌, ◌-◌}
use lib.ListN.{length, drop}
use Rattle.dump_reader.proofs.piece.read_bytes.Given as goal

abbrev pub invariant-loop-i : goal.invariant-loop-i
invariant-loop-i l = (l.i ≤ length l.bytes) × (◌≡◌ {A = All} (feed (record { reader = l.initial.s; store = l.initial.store; digits = l.initial.digits; frames = l.initial.frames }) l.bytes) (feed (record { reader = l.s; store = l.store; digits = l.digits; frames = l.frames }) (drop l.i l.bytes)))

abbrev pub decreases-loop-i : goal.decreases-loop-i
decreases-loop-i l = length l.bytes - l.i
