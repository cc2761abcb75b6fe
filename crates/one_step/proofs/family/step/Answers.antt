-- `one_step::family::step` meets its contract: a checker that is not fatal goes on, and a fatal one has the step of the same checker made to go on until it stops.
-- Assumes nothing.
use native.Mathlib.Omega.{arith}
use Rattle.rules.proofs.Good.{severity-low}
use Rattle.rules.proofs.Severity.{severity-fatal, made-on, made-good, made-possible, made-steps}
use Rattle.rules.proofs.Claims.{steps-stopped}
use Rattle.one_step.proofs.family.step.Goals as goal

pub going_step-requires : goal.going_step-requires
going_step-requires c =
    (c.requires.0, omega (arith, c.if-c-ne-FATAL.true, severity-low c.args.c c.requires.0), c.requires.1)

pub returns-then-word-eq-STOPPED : goal.returns-then-word-eq-STOPPED
returns-then-word-eq-STOPPED c =
    rw c.if-word-eq-STOPPED.true (steps-stopped c.args.c c.args.frame (severity-fatal c.args.c c.if-c-ne-FATAL.false))

pub going_step-requires-2 : goal.going_step-requires-2
going_step-requires-2 c =
    let is = c.going_on.ensures in
    let e = c.if-c-ne-FATAL.false in
    (made-good c.args.c _ e is c.requires.0, made-on c.args.c _ e is, made-possible c.args.c _ e is c.args.word c.if-word-eq-STOPPED.false c.requires.1)

pub returns : goal.returns
returns c =
    let next = c.going_step-2 in
    made-steps c.args.c _ c.if-c-ne-FATAL.false c.going_on.ensures c.args.word c.if-word-eq-STOPPED.false
    c.args.frame next.result.row next.result.word _ _ next.ensures c.stop_at_failure.ensures
