-- `transition::step::values_cycle` meets its contract. Assumes nothing.
use mathlib.Core.Path.{sym, ◌∙◌}
use borrow.Author.Tests.{not-true, not-false}
use Rattle.rules.specs.Config.Family.{transition}
use Rattle.rules.proofs.Severity.{goes-possible}
use Rattle.cycle.proofs.Outcomes.{steps-in-reset, steps_of}
use Rattle.transition.proofs.TransitionCode.{all_tell}
use Rattle.transition.proofs.step.values_cycle.Goals as goal

pub returns-then-not-values : goal.returns-then-not-values
returns-then-not-values c = λ f holds tells.
    let s = c in
    steps-in-reset s.args.c s.args.word f s.requires.1.1 (sym holds.up_is ∙ not-true _ c.if-not-values.true)

pub returns-then-known : goal.returns-then-known
returns-then-known c = λ f holds tells.
    let a = c.args in
    steps_of a.c a.word f c.requires.1.1 transition c.transition_step.result.row c.transition_step.result.word (sym holds.up_is ∙ not-false _ c.if-not-values.false) c.requires.1.0
    (c.transition_step.ensures a.c f c.requires.1.0 (goes-possible a.c c.requires.1.1 a.word c.requires.2) holds
    (all_tell a.c f a.known c.if-known.true tells))

pub returns : goal.returns
returns c = λ f holds tells.
    let a = c.args in
    steps_of a.c a.word f c.requires.1.1 transition c.transition_step-2.result.row c.transition_step-2.result.word (sym holds.up_is ∙ not-false _ c.if-not-values.false) c.requires.1.0
    (c.transition_step-2.ensures a.c f c.requires.1.0 (goes-possible a.c c.requires.1.1 a.word c.requires.2) holds tells)
