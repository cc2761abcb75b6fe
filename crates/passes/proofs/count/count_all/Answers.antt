-- `passes::count::count_all` meets its contract: what the pass has added up are the entries of the trace. Assumes nothing.
use Rattle.passes.proofs.Whole.{counted-all}
use Rattle.passes.proofs.count.count_all.Goals as goal

pub pass-requires : goal.pass-requires
pass-requires c = (c.requires.0, c.requires.1, c.requires.1)

pub returns : goal.returns
returns c = counted-all c.args.c c.args.trace.now c.requires.1 c.pass.ensures
