use Rattle.dump_load.proofs.Laws as laws
use mathlib.Core.Path.{◌∙◌, sym}
use Rattle.dump_load.proofs.begin.put_table.Goals as goal

pub loop-k-preserved : goal.loop-k-preserved
loop-k-preserved c = c.loop-k.invariant ∙ laws.table_more _ _ _ c.loop-k-test.true

pub returns : goal.returns
returns c = sym (c.loop-k.invariant ∙ laws.table-end _ _ _ c.loop-k-test.false)
