-- `marked::pick::pick_marked` meets its contract. The loop's invariant: the rows before `first` are picked, and where rows are left, those passed are whole words
-- of 32. The measure is what is left of the rows. Assumes nothing.
use Prim.Native.Nat.{◌-◌, min}
use Rattle.marked.proofs.Places.{Picking}
use Rattle.marked.proofs.pick.pick_marked.Given as goal

abbrev pub invariant-loop-first : goal.invariant-loop-first
invariant-loop-first l = Picking l.rows l.cycles (min l.first l.cycles) l.picked l.next

abbrev pub decreases-loop-first : goal.decreases-loop-first
decreases-loop-first l = l.cycles - l.first
