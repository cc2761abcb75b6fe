-- `time::step::time_cycle` meets its contract. Assumes nothing.
use mathlib.Core.Path.{sym, ◌∙◌}
use Rattle.rules.specs.Config.Family.{time}
use Rattle.cycle.proofs.Outcomes.{steps-in-reset, steps_of}
use Rattle.time.proofs.step.time_cycle.Goals as goal

pub returns-then-not-out_of_reset : goal.returns-then-not-out_of_reset
returns-then-not-out_of_reset c =
    let a = c.args in
    steps-in-reset a.c a.word a.frame c.requires.1.1 (sym c.out_of_reset.ensures ∙ c.if-not-out_of_reset.true)

pub time_step-requires : goal.time_step-requires
time_step-requires c = let at = c in (at.requires.0, at.requires.1.0)

pub returns : goal.returns
returns c =
    let at = c in
    steps_of at.args.c at.args.word at.args.frame at.requires.1.1 time c.time_step.result.row c.time_step.result.word
    (sym c.out_of_reset.ensures ∙ c.if-not-out_of_reset.false) at.requires.1.0 c.time_step.ensures
