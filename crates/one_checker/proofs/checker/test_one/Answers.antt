-- `one_checker::checker::test_one` meets its contract: the configuration is tested first, then the word. Assumes nothing.
use mathlib.Core.Path.{sym, ◌∙◌}
use mathlib.Core.Bool.{true, false}
use native.Mathlib.Omega.{arith}
use Rattle.rules.proofs.Good.{refusal-low}
use Rattle.rules.proofs.Refusals.{is-refused, no-cycle, passes-number}
use Rattle.open_words.proofs.Refusals.{config-refused, word-decides}
use Rattle.one_checker.proofs.checker.test_one.Goals as goal

pub returns-in_err-config_refusal-clause-number : goal.returns-in_err-config_refusal-clause-number
returns-in_err-config_refusal-clause-number c =
    let e = c.in_err-config_refusal.field-0.0 in
    passes-number c.from_residual.result e c.from_residual.ensures.1 ∙ c.in_err-config_refusal.ensures
    ∙ sym (config-refused c.args.c c.args.word (λ good. omega (arith, is-refused e, c.in_err-config_refusal.ensures, good)))

pub returns-in_err-config_refusal-clause-no_cycle : goal.returns-in_err-config_refusal-clause-no_cycle
returns-in_err-config_refusal-clause-no_cycle c =
    let r = c.from_residual.result in
    let n = passes-number r c.in_err-config_refusal.field-0.0 c.from_residual.ensures.1 ∙ c.in_err-config_refusal.ensures in
    no-cycle r _ n (omega (arith, refusal-low c.args.c))

pub returns-then-is_possible-clause-number : goal.returns-then-is_possible-clause-number
returns-then-is_possible-clause-number c =
    let a = c.args in
    sym (word-decides a.c a.word true (sym c.in_ok-config_refusal.ensures) (sym c.is_possible.ensures ∙ c.if-is_possible.true))

pub returns-else-is_possible-clause-number : goal.returns-else-is_possible-clause-number
returns-else-is_possible-clause-number c =
    let a = c.args in
    sym (word-decides a.c a.word false (sym c.in_ok-config_refusal.ensures) (sym c.is_possible.ensures ∙ c.if-is_possible.false))
