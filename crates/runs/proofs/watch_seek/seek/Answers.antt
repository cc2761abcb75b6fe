-- `runs::watch_seek::seek` meets its contract: where the word is not the kept one, a step takes the run one entry further, and a row with mark 1 or 2 ends it there.
-- Assumes nothing.
use mathlib.Core.Path.{refl, sym, ◌∙◌}
use native.Mathlib.Numerals.{add-one}
use Rattle.trace.proofs.Running.{running_none, in_trace}
use Rattle.trace.proofs.Watching.{watch-ready, watch-fails, watch-goes-on}
use Rattle.runs.proofs.watch_seek.seek.Goals as goal

pub loop-at-init : goal.loop-at-init
loop-at-init g c = (running_none c.requires.0.0, c.requires.0.1)

pub step-next-requires : goal.step-next-requires
step-next-requires g c =
    let on = g.met.S.CycleStep.goes_on c.args.stepper in
    let runs = c.requires.0.0 in
    let run = c.loop-at.invariant in
    ((watch-ready on runs run.0 run.1).1, in_trace runs run.0 c.loop-at-test.true)

pub returns-then-fails : goal.returns-then-fails
returns-then-fails g c =
    let on = g.met.S.CycleStep.goes_on c.args.stepper in
    let run = c.loop-at.invariant in
    let come =
    watch-fails on c.requires.0.0 run.0 run.1 c.loop-at-test.true (λ _. c.if-word-kept.false) c.step-next.ensures (sym c.fails.ensures ∙ c.if-fails.true) in
    record { come = rw (add-one c.loop-at.at) come; ended = λ other _. absurd (other refl) }

pub loop-at-preserved : goal.loop-at-preserved
loop-at-preserved g c =
    let on = g.met.S.CycleStep.goes_on c.args.stepper in
    let run = c.loop-at.invariant in
    rw (add-one c.loop-at.at)
    (watch-goes-on on c.requires.0.0 run.0 run.1 c.loop-at-test.true (λ _. c.if-word-kept.false) c.step-next.ensures (sym c.fails.ensures ∙ c.if-fails.false))
