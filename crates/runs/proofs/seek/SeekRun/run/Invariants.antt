-- `runs::seek::SeekRun::run` meets its contract. The loop's invariant: the run has come to an entry with no earlier one where it had to stop. Assumes nothing.
use Rattle.trace.specs.Stretches.{Running}
use Rattle.trace.proofs.Running.{reached}
use Rattle.runs.proofs.seek.SeekRun.run.Given as goal

abbrev pub invariant-loop-at : goal.invariant-loop-at
invariant-loop-at g l = Running (g.S.CycleStep.config l.stepper) l.trace l.initial.rows l.initial.words l.fn.s l.rows l.words (reached l.at l.word l.kept)
