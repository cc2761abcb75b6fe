-- `fatal_engine::run::run_fatal` meets its contract: a checker that has failed stays there, and what `Watch` leaves is a run, or the start of one that has failed.
-- Assumes nothing.
use mathlib.Core.Path.{ap}
use Rattle.rules.specs.declared.config.Config.{Config}
use Rattle.rules.proofs.Severity.{going-good}
use Rattle.fatal_engine.proofs.Failed.{fatal-runnable, failed-before, not-failed, has-failed}
use Rattle.fatal_engine.proofs.run.run_fatal.Goals as goal

pub returns-then-s-eq-STOPPED : goal.returns-then-s-eq-STOPPED
returns-then-s-eq-STOPPED c =
    failed-before c.requires.1 c.requires.0 c.if-s-eq-STOPPED.true c.stay.ensures

pub run_family-reached-requires : goal.run_family-reached-requires
run_family-reached-requires c =
    let on = ap (λ (x : Config). x.severity) c.going_on.ensures in
    let runs = fatal-runnable c.requires.1 c.going_on.ensures c.requires.0 in
    (going-good _ on runs.good, on, (runs, c.if-s-eq-STOPPED.false))

pub returns-then-reached : goal.returns-then-reached
returns-then-reached c =
    not-failed c.requires.1 c.going_on.ensures c.requires.0 c.run_family-reached.ensures c.if-reached.true

pub returns : goal.returns
returns c =
    has-failed c.requires.1 c.going_on.ensures c.requires.0 c.run_family-reached.ensures c.if-reached.false c.stay-2.ensures
