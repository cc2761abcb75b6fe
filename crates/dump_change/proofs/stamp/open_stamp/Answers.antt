use Rattle.dump_change.proofs.Laws as laws
use mathlib.Core.Path.{◌∙◌}
use Rattle.dump_change.proofs.stamp.open_stamp.Goals as goal

pub loop-j-preserved : goal.loop-j-preserved
loop-j-preserved c = c.loop-j.invariant ∙ laws.open_more _ _ c.loop-j-test.true

pub returns : goal.returns
returns c = laws.open-all _ _ _ c.loop-j.invariant c.loop-j-test.false
