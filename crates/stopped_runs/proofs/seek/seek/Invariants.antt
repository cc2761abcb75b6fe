-- `stopped_runs::seek::seek` meets its contract. The loop's invariant is `Staying`. Assumes nothing.
use Rattle.trace.specs.Stretches.{Staying}
use Rattle.stopped_runs.proofs.seek.seek.Given as goal

abbrev pub invariant-loop-at : goal.invariant-loop-at
invariant-loop-at l = Staying l.fn.s.at l.fn.s.to l.fn.s.stops l.fn.s.kept l.initial.rows l.initial.words l.rows l.words l.at l.kept
