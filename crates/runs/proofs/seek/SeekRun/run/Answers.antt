-- `runs::seek::SeekRun::run` meets its contract: where the word is not the kept one, a step takes the run one entry further. Assumes nothing.
use native.Mathlib.Numerals.{add-one}
use Rattle.trace.proofs.Running.{running_none, running_more}
use Rattle.runs.proofs.seek.SeekRun.run.Goals as goal

pub loop-at-init : goal.loop-at-init
loop-at-init g c = running_none c.requires.0

pub loop-at-preserved : goal.loop-at-preserved
loop-at-preserved g c =
    rw (add-one c.loop-at.at)
    (running_more c.requires.0 c.loop-at.invariant c.loop-at-test.true (λ _. c.if-word-kept.false) c.step-next.ensures)
