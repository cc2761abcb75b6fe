use Rattle.dump_change.proofs.Laws as laws
use mathlib.Core.Path.{◌∙◌, sym}
use Rattle.dump_change.proofs.sample.sample.Goals as goal

pub loop-j-preserved : goal.loop-j-preserved
loop-j-preserved c = c.loop-j.invariant ∙ laws.sample-more _ _ _ _ c.loop-j-test.true

pub returns : goal.returns
returns c = sym (c.loop-j.invariant ∙ laws.sample-end _ _ _ _ c.loop-j-test.false)
