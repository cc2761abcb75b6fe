-- `marks_line::line::Line::put` meets its contract: the bytes so far are put. Assumes nothing.
use Rattle.std.proofs.Common.{◌≡◌, take}
use Rattle.marks_line.specs.Lines.{with_bytes}
use Rattle.marks_line.proofs.line.Line.put.Given as goal

abbrev pub invariant-loop-b : goal.invariant-loop-b
invariant-loop-b l = l.self ≡ with_bytes l.initial.self (take l.b-index l.b-items)
