-- `marks_line::line::Line::put_byte` meets its contract: a byte is put where there is room. Assumes nothing.
use Rattle.marks_line.proofs.Laws as laws
use Rattle.marks_line.proofs.line.Line.put_byte.Goals as goal

pub returns-then-self-lt256 : goal.returns-then-self-lt256
returns-then-self-lt256 c = rw (← c.self.view_is) (laws.put-in _ _ _ c.self.told c.if-self-lt256.true)

pub returns-else-self-lt256 : goal.returns-else-self-lt256
returns-else-self-lt256 c = rw (← c.self.view_is) (laws.left-out _ _ _ c.self.told c.self.invariant c.if-self-lt256.false)
