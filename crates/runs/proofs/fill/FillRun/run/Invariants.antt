-- `runs::fill::FillRun::run` meets its contract. The loop's invariant: the run has come to an entry and has stored those before it. Assumes nothing.
use Rattle.trace.specs.Stretches.{Running, kept_from}
use Rattle.trace.proofs.Running.{reached}
use Rattle.runs.proofs.fill.FillRun.run.Given as goal

abbrev pub invariant-loop-at : goal.invariant-loop-at
invariant-loop-at g l = Running (g.S.CycleStep.config l.stepper) l.trace l.initial.rows l.initial.words l.fn.s l.rows l.words (reached l.at l.word (kept_from l.initial.words l.fn.s.at l.fn.s.kept l.at))
