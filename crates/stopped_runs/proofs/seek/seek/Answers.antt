-- `stopped_runs::seek::seek` meets its contract: where 2^63 is not the kept word, one entry more is stored. Assumes nothing.
use native.Mathlib.Numerals.{add-one}
use Rattle.trace.proofs.Staying.{staying-none, staying-more}
use Rattle.stopped_runs.proofs.seek.seek.Goals as goal

pub loop-at-init : goal.loop-at-init
loop-at-init c = staying-none c.requires.0

pub loop-at-preserved : goal.loop-at-preserved
loop-at-preserved c =
    rw (add-one c.loop-at.at)
    (staying-more c.loop-at.invariant c.loop-at-test.true c.requires.1 c.requires.2 (λ _. c.if-kept.false))
