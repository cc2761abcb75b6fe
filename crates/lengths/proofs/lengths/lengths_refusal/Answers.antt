-- `lengths::lengths::lengths_refusal` meets its contract: the tests come in the order of the refusal numbers. Assumes nothing.
use mathlib.Core.Path.{refl, sym, ◌∙◌}
use mathlib.Core.Bool.{true, false}
use native.Mathlib.Omega.{arith}
use borrow.Author.Tests.{eq-eqb, ne_eqb}
use Rattle.rules.proofs.Refusals.{is-refused, passes-number}
use Rattle.lengths.proofs.Refusals.{check-refusal}
use Rattle.lengths.proofs.lengths.lengths_refusal.Goals as goal

pub returns-in_err-config_refusal : goal.returns-in_err-config_refusal
returns-in_err-config_refusal c = λ ts rs ws p q r.
    let a = c.args in
    let e = c.in_err-config_refusal.field-0.0 in
    let refused = ne_eqb _ 0 (λ z. omega (arith, is-refused e, c.in_err-config_refusal.ensures, z)) in
    passes-number c.from_residual.result e c.from_residual.ensures.1 ∙ c.in_err-config_refusal.ensures
    ∙ sym (check-refusal a.c ts rs ws a.trace a.rows a.words _ p q r refl false _ _ refused refl refl)

pub returns-then-not-trace-cycles : goal.returns-then-not-trace-cycles
returns-then-not-trace-cycles c = λ ts rs ws p q r.
    let a = c.args in
    sym
    (check-refusal a.c ts rs ws a.trace a.rows a.words _ p q r c.frames_in-cycles.ensures true false _
    (eq-eqb _ 0 (sym c.in_ok-config_refusal.ensures)) (c.if-not-trace-cycles.true) refl)

pub returns-then-not-rows-cycles : goal.returns-then-not-rows-cycles
returns-then-not-rows-cycles c = λ ts rs ws p q r.
    let a = c.args in
    sym
    (check-refusal a.c ts rs ws a.trace a.rows a.words _ p q r c.frames_in-cycles.ensures true true false
    (eq-eqb _ 0 (sym c.in_ok-config_refusal.ensures)) (c.if-not-trace-cycles.false)
    (c.if-not-rows-cycles.true))

pub returns : goal.returns
returns c = λ ts rs ws p q r.
    let a = c.args in
    sym
    (check-refusal a.c ts rs ws a.trace a.rows a.words _ p q r c.frames_in-cycles.ensures true true true
    (eq-eqb _ 0 (sym c.in_ok-config_refusal.ensures)) (c.if-not-trace-cycles.false)
    (c.if-not-rows-cycles.false))
