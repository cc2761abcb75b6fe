-- `value::step::value_cycle` meets its contract. Assumes nothing.
use mathlib.Core.Path.{sym, ◌∙◌}
use Rattle.rules.specs.Config.Family.{value}
use Rattle.cycle.proofs.Outcomes.{steps-in-reset, steps_of}
use Rattle.value.proofs.step.value_cycle.Goals as goal

pub returns-then-not-out_of_reset : goal.returns-then-not-out_of_reset
returns-then-not-out_of_reset c =
    let a = c.args in
    steps-in-reset a.c a.word a.frame c.requires.1.1 (sym c.out_of_reset.ensures ∙ c.if-not-out_of_reset.true)

pub value_step-requires : goal.value_step-requires
value_step-requires c =
    let s = c in
    (s.requires.0, s.requires.1.0, s.requires.3, sym c.out_of_reset.ensures ∙ c.if-not-out_of_reset.false)

pub returns : goal.returns
returns c =
    let at = c in
    steps_of at.args.c at.args.word at.args.frame at.requires.1.1 value c.value_step.result.row c.value_step.result.word
    (sym c.out_of_reset.ensures ∙ c.if-not-out_of_reset.false) at.requires.1.0 c.value_step.ensures
