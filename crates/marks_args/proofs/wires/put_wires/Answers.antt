-- `marks_args::wires::put_wires` meets its contract: what is left to put, put into the table as it is, gives the table that is due. Assumes nothing.
use mathlib.Core.Path.{sym, ◌∙◌}
use Rattle.marks_args.proofs.Laws as laws
use Rattle.marks_args.proofs.wires.put_wires.Goals as goal

pub loop-k-preserved : goal.loop-k-preserved
loop-k-preserved c = c.loop-k.invariant ∙ laws.wires-more _ _ _ _ _ _ _ c.loop-k-test.true c.put_wire.ensures

pub returns : goal.returns
returns c = sym (c.loop-k.invariant ∙ laws.wires-end _ _ _ _ _ _ c.loop-k-test.false)
