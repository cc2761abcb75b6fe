-- `misfits::words::attempts_misfit` meets its contract: no bit from n − 1 on is below 2^(n − 1). Assumes nothing.
use Rattle.std.proofs.Common.{◌-◌, ◌/◌, ◌^◌, arith, eq-eqb, ne_eqb}
use mathlib.Core.Bool.{and-true}
use Rattle.rules.specs.Config.Family.{sequence}
use Rattle.rules.specs.Possible.{possible_of}
use Rattle.rules.proofs.Good.{sequence-config, possible-are}
use Rattle.misfits.proofs.Misfits.{or-zero, high_zero}
use Rattle.misfits.proofs.words.attempts_misfit.Goals as goal

pub overflow_sub-high : goal.overflow_sub-high
overflow_sub-high c = omega (arith, sequence-config c.args.c c.requires.0 c.requires.1)

pub overflow_shr-high : goal.overflow_shr-high
overflow_shr-high c = omega (arith, sequence-config c.args.c c.requires.0 c.requires.1)

pub returns-then-c-eq2 : goal.returns-then-c-eq2
unfolding possible_of
returns-then-c-eq2 c =
    let a = c.args in
    rw (or-zero (a.word / 2 ^ (a.c.n - 1)) c.second_one.result, high_zero a.word (a.c.n - 1), c.second_one.ensures)
    (rw (eq-eqb a.c.kind 2 c.if-c-eq2.true) at (possible-are a.c a.word sequence c.requires.1))

pub returns : goal.returns
unfolding possible_of
returns c =
    let a = c.args in
    rw (high_zero a.word (a.c.n - 1)) (rw (ne_eqb a.c.kind 2 c.if-c-eq2.false, and-true) at (possible-are a.c a.word sequence c.requires.1))
