-- `byte_step::step::row_of_step` meets its contract: the configuration is tested, then the slice's length, then the step by value tests the word.
-- Assumes nothing.
use mathlib.Core.Path.{refl, sym}
use native.Mathlib.Omega.{arith}
use Rattle.rules.proofs.Refusals.{is-refused}
use Rattle.byte_step.specs.Step.{ByteStep}
use Rattle.byte_step.proofs.ByteSteps.{passed-up, config-refused, length-refused, word-refused, taken}
use Rattle.byte_step.proofs.step.row_of_step.Goals as goal

pub returns-in_err-config_refusal : goal.returns-in_err-config_refusal
returns-in_err-config_refusal c =
    let a = c.args in
    let e = c.in_err-config_refusal.field-0.0 in
    passed-up c.from_residual.result e c.from_residual.ensures.1 (ByteStep a.config a.frame a.word.now a.word.now)
    (config-refused c.in_err-config_refusal.ensures (λ z. omega (arith, is-refused e, z)))

pub returns-then-word-ne8 : goal.returns-then-word-ne8
returns-then-word-ne8 c = length-refused (sym c.in_ok-config_refusal.ensures) c.if-word-ne8.true

pub returns-in_err-stepped : goal.returns-in_err-stepped
returns-in_err-stepped c =
    let a = c.args in
    let e = c.in_err-stepped.field-0.0 in
    passed-up c.from_residual-in_err-stepped.result e c.from_residual-in_err-stepped.ensures.1 (ByteStep a.config a.frame a.word.now a.word.now)
    (word-refused (sym c.in_ok-config_refusal.ensures) c.if-word-ne8.false c.load.ensures c.in_err-stepped.ensures.answer (λ z. omega (arith, is-refused e, z)))

pub returns : goal.returns
returns c =
    taken (sym c.in_ok-config_refusal.ensures) c.if-word-ne8.false c.load.ensures c.in_ok-stepped.ensures.answer refl c.store.ensures
