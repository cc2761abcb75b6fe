-- `sequence::step::events_cycle` meets its contract. Assumes nothing.
use mathlib.Core.Path.{sym, ◌∙◌}
use borrow.Author.Tests.{not-true, not-false}
use Rattle.rules.specs.Config.Family.{sequence}
use Rattle.rules.proofs.Severity.{goes-possible}
use Rattle.cycle.proofs.Outcomes.{steps-in-reset, steps_of}
use Rattle.sequence.proofs.step.events_cycle.Goals as goal

pub returns-then-not-events : goal.returns-then-not-events
returns-then-not-events c = λ f sees.
    let s = c in
    steps-in-reset s.args.c s.args.word f s.requires.1.1 (sym sees.up_is ∙ not-true _ c.if-not-events.true)

pub sequence_step-requires : goal.sequence_step-requires
sequence_step-requires c =
    let s = c in (s.requires.0, s.requires.1.0, goes-possible s.args.c s.requires.1.1 s.args.word s.requires.2)

pub returns : goal.returns
returns c = λ f sees.
    let e = c in
    let s = e in
    steps_of s.args.c s.args.word f s.requires.1.1 sequence c.sequence_step.result.row c.sequence_step.result.word
    (sym sees.up_is ∙ not-false _ e.if-not-events.false) s.requires.1.0 (c.sequence_step.ensures f sees)
