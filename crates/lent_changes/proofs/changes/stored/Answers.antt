-- `lent_changes::changes::stored` meets its contract: the recheck's, with its numbers in lent ones. Assumes nothing.
use mathlib.Core.Path.{refl, ap, ◌∙◌}
use mathlib.Core.List.{◌∷◌}
use native.Mathlib.Omega.{arith}
use lib.IntN.{ℤ}
use mir.Syntax.{w32}
use mir.Facts.{to_z_pos}
use Rattle.std.proofs.lemmas.Result.{err_from_is_err_and}
use Rattle.rules.proofs.Refusals.{is-refused, no-cycle, passes-number, passes-cycle}
use Rattle.recheck_refusals.proofs.Refusals.{check-low}
use Rattle.lent_changes.proofs.Rechecks.{earlier-due, refused, stored, end_low, cycle-low}
use Rattle.lent_changes.proofs.changes.stored.Goals as goal

pub returns-in_err-lengths_refusal-clause-rechecked : goal.returns-in_err-lengths_refusal-clause-rechecked
returns-in_err-lengths_refusal-clause-rechecked c =
    let a = c.args in
    let e = c.in_err-lengths_refusal.field-0.0 in
    let r = c.from_residual.result in
    let n = passes-number r e c.from_residual.ensures.1 in
    let is = n ∙ c.in_err-lengths_refusal.ensures a.trace.now a.rows.now a.words.now refl refl refl in
    rw (no-cycle r _ is (omega (arith, check-low a.config a.trace.now a.rows.now a.words.now 0 0)))
    (earlier-due c.if-answer.true is (λ z. omega (arith, is-refused e, n, z)))

pub returns-in_err-lengths_refusal-clause-cycle_low : goal.returns-in_err-lengths_refusal-clause-cycle_low
returns-in_err-lengths_refusal-clause-cycle_low c =
    let a = c.args in
    let e = c.in_err-lengths_refusal.field-0.0 in
    let r = c.from_residual.result in
    let is = passes-number r e c.from_residual.ensures.1 ∙ c.in_err-lengths_refusal.ensures a.trace.now a.rows.now a.words.now refl refl refl in
    omega (arith, no-cycle r _ is (omega (arith, check-low a.config a.trace.now a.rows.now a.words.now 0 0)))

pub returns-in_err-done-clause-rechecked : goal.returns-in_err-done-clause-rechecked
returns-in_err-done-clause-rechecked c =
    let e = c.in_err-done.field-0.0 in
    let p = err_from_is_err_and c.from_residual-in_err-done.result c.from_residual-in_err-done.ensures.1 in
    rw (p.1, p.2) (refused c.in_err-done.ensures c.if-answer.false (λ z. omega (arith, is-refused e, z)))

pub returns-in_err-done-clause-cycle_low : goal.returns-in_err-done-clause-cycle_low
returns-in_err-done-clause-cycle_low c =
    rw (passes-cycle c.from_residual-in_err-done.result c.in_err-done.field-0.0 c.from_residual-in_err-done.ensures.1) (cycle-low c.in_err-done.ensures)

pub overflow_cast-done : goal.overflow_cast-done
overflow_cast-done c =
    let low = end_low c.in_ok-done.ensures refl in
    record { sfits = omega (arith, low) }

pub returns-clause-rechecked : goal.returns-clause-rechecked
returns-clause-rechecked c =
    let low = end_low c.in_ok-done.ensures refl in
    stored c.in_ok-done.ensures c.if-answer.false refl
    (c.store_changes.ensures ∙ ap (λ (z : ℤ). z ∷ c.in_ok-done.done.changes) (to_z_pos w32 (omega (arith, low))))
