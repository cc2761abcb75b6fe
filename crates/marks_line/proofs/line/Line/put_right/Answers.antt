-- `marks_line::line::Line::put_right` meets its contract: spaces are put, and then the digits. Assumes nothing.
use Rattle.marks_line.proofs.Laws as laws
use Rattle.marks_line.proofs.line.Line.put_right.Goals as goal

pub returns : goal.returns
returns c = rw (← c.format-digits.ensures.text, ← c.saturating_sub.ensures, c.put.ensures, c.put_spaces.ensures) (laws.put-more _ _ _)
