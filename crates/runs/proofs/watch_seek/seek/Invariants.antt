-- `runs::watch_seek::seek` meets its contract. The loop's invariant is `Running`, of the checker made fatal, with a word that is not 2^63. Assumes nothing.
use Rattle.std.proofs.Common.{◌≡◌}
use Rattle.rules.specs.Config.{fatally}
use Rattle.rules.specs.Rules.{stopped_word}
use Rattle.trace.specs.Stretches.{Running}
use Rattle.trace.proofs.Running.{reached}
use Rattle.runs.proofs.watch_seek.seek.Given as goal

abbrev pub invariant-loop-at : goal.invariant-loop-at
invariant-loop-at g l = Running (fatally (g.S.CycleStep.config l.stepper)) l.trace l.initial.rows l.initial.words l.fn.s l.rows l.words (reached l.at l.word l.kept)
    × (l.word ≡ stopped_word → ⊥)
