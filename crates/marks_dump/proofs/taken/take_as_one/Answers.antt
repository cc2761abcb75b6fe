-- `marks_dump::taken::take_as_one` meets its contract: the frames that are left, with their bits set in the frames as they are, give what is due. Assumes nothing.
use mathlib.Core.Path.{sym, ◌∙◌}
use Rattle.marks_dump.proofs.Laws as laws
use Rattle.marks_dump.proofs.taken.take_as_one.Goals as goal

pub loop-t-preserved : goal.loop-t-preserved
loop-t-preserved c = c.loop-t.invariant ∙ laws.bits-more _ _ _ _ c.loop-t-test.true

pub returns : goal.returns
returns c = sym (c.loop-t.invariant ∙ laws.bits-end _ _ _ _ c.loop-t-test.false)
