-- `families::family::run_time` meets its contract: of the three kinds of `time` the last is 5. Assumes nothing.
use mathlib.Core.Path.{sym}
use native.Mathlib.Omega.{arith}
use Rattle.rules.specs.Config.Family.{time}
use Rattle.rules.proofs.Families.{kinds}
use Rattle.families.proofs.family.run_time.Goals as goal

pub invariant_of-run-in_default-clause-kind_is : goal.invariant_of-run-in_default-clause-kind_is
invariant_of-run-in_default-clause-kind_is g c =
    let among = kinds c.args.c.kind time (sym c.requires.1.0) in
    omega (arith, among.0, among.1, c.in_default)
