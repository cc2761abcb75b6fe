-- `runs::fill::FillRun::run` meets its contract: a step takes the run one entry further. Assumes nothing.
use native.Mathlib.Numerals.{add-one}
use Rattle.trace.proofs.Running.{filling-none, filling-more}
use Rattle.runs.proofs.fill.FillRun.run.Goals as goal

pub loop-at-init : goal.loop-at-init
loop-at-init g c = filling-none c.requires.0

pub loop-at-preserved : goal.loop-at-preserved
loop-at-preserved g c =
    rw (add-one c.loop-at.at) (filling-more c.requires.0 c.requires.1 c.loop-at.invariant c.loop-at-test.true c.step-next.ensures)
