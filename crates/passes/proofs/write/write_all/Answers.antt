-- `passes::write::write_all` meets its contract: what the pass has stored are the entries of the trace. Assumes nothing.
use Rattle.passes.specs.Listed.{failures_of}
use Rattle.passes.proofs.Whole.{stored-all}
use Rattle.passes.proofs.write.write_all.Goals as goal

pub pass-requires : goal.pass-requires
unfolding failures_of
pass-requires c = (c.requires.0, c.requires.1, c.requires.2)

pub returns : goal.returns
returns c = stored-all c.args.c c.args.trace.now c.pass.ensures
