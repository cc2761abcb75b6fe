-- `marks_line::line::Line::put_spaces` meets its contract: the spaces so far are put. Assumes nothing.
use Rattle.std.proofs.Common.{◌≡◌, replicate}
use Rattle.marks_line.specs.Lines.{with_bytes}
use Rattle.marks_line.proofs.line.Line.put_spaces.Given as goal

abbrev pub invariant-loop : goal.invariant-loop
invariant-loop l = l.self ≡ with_bytes l.initial.self (replicate l.counter 32)
