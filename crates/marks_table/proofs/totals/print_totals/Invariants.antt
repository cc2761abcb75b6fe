-- `marks_table::totals::print_totals` is safe: what is put between two marks is text. Assumes nothing.
use denote.Text.{Utf8}
use denote.Shadow.{shadow}
use Rattle.marks_table.proofs.totals.print_totals.Given as goal

abbrev pub invariant-loop-mark : goal.invariant-loop-mark
invariant-loop-mark g l = (goal.iterator-loop-mark g).can_next l.mark-iterator × (goal.iterator-loop-mark g).is_finite l.mark-iterator × shadow (Utf8 l.between)
