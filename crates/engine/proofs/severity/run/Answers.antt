-- `engine::severity::run` meets its contract: a checker that is not fatal goes on. Assumes nothing.
use native.Mathlib.Omega.{arith}
use Rattle.rules.proofs.Good.{severity-low}
use Rattle.engine.proofs.severity.run.Goals as goal

pub run_family-requires : goal.run_family-requires
run_family-requires c =
    let good = c.requires.good in
    (good, omega (arith, c.if-fatal.false, severity-low c.args.c good), (c.requires, c.if-stops.true))

pub run_family-requires-else-stops : goal.run_family-requires-else-stops
run_family-requires-else-stops c =
    let good = c.requires.good in
    (good, omega (arith, c.if-fatal-2.false, severity-low c.args.c good), (c.requires, c.if-stops.false))
