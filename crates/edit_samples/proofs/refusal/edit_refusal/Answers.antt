-- `edit_samples::refusal::edit_refusal` meets its contract: the tests come in the order of the refusal numbers. Assumes nothing.
use mathlib.Core.Path.{refl, sym, ◌∙◌}
use mathlib.Core.Bool.{true, false}
use native.Mathlib.Omega.{arith}
use Rattle.rules.proofs.Refusals.{is-refused, passes-number}
use Rattle.edit_samples.proofs.Refusals.{refused-first, rest-decides}
use Rattle.edit_samples.proofs.refusal.edit_refusal.Goals as goal

pub returns-in_err-lengths_refusal : goal.returns-in_err-lengths_refusal
returns-in_err-lengths_refusal c = λ ts rs ws ss p q r s.
    let a = c.args in
    let e = c.in_err-lengths_refusal.field-0.0 in
    let is = c.in_err-lengths_refusal.ensures ts rs ws p q r in
    passes-number c.from_residual.result e c.from_residual.ensures.1 ∙ is
    ∙ sym (refused-first a.c ts rs ws a.a a.b ss (λ z. omega (arith, is-refused e, is, z)))

pub returns-then-not-samples_fit : goal.returns-then-not-samples_fit
returns-then-not-samples_fit c = λ ts rs ws ss p q r s.
    let a = c.args in
    sym
    (rest-decides a.c ts rs ws a.a a.b ss (sym (c.in_ok-lengths_refusal.ensures ts rs ws p q r)) false _ (rw s (sym c.samples_fit.ensures ∙ c.if-not-samples_fit.true)) refl)

pub returns-then-not-a-b : goal.returns-then-not-a-b
returns-then-not-a-b c = λ ts rs ws ss p q r s.
    let a = c.args in
    sym
    (rest-decides a.c ts rs ws a.a a.b ss (sym (c.in_ok-lengths_refusal.ensures ts rs ws p q r)) true false
    (rw s (sym c.samples_fit.ensures ∙ c.if-not-samples_fit.false)) (rw q (c.if-not-a-b.true)))

pub returns : goal.returns
returns c = λ ts rs ws ss p q r s.
    let a = c.args in
    sym
    (rest-decides a.c ts rs ws a.a a.b ss (sym (c.in_ok-lengths_refusal.ensures ts rs ws p q r)) true true
    (rw s (sym c.samples_fit.ensures ∙ c.if-not-samples_fit.false)) (rw q (c.if-not-a-b.false)))
