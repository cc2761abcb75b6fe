-- `record::check::full_check` meets its contract: what is not refused is a stretch that `run` takes, and a refusal comes before any store. Assumes nothing.
use mathlib.Core.Path.{refl, sym, ◌∙◌}
use native.Mathlib.Omega.{arith}
use Rattle.rules.proofs.Refusals.{is-refused, passes-number}
use Rattle.lengths.proofs.Refusals.{check-accepted}
use Rattle.record.proofs.Answers.{not-checked, checked}
use Rattle.record.proofs.Checked.{runnable, filled}
use Rattle.record.proofs.check.full_check.Goals as goal

pub returns-in_err-lengths_refusal : goal.returns-in_err-lengths_refusal
returns-in_err-lengths_refusal c =
    let a = c.args in
    let e = c.in_err-lengths_refusal.field-0.0 in
    let n = passes-number c.from_residual.result e c.from_residual.ensures.1 in
    not-checked a.c a.trace.now a.rows.now a.words.now _
    (n ∙ c.in_err-lengths_refusal.ensures a.trace.now a.rows.now a.words.now refl refl refl) (λ z. omega (arith, is-refused e, n, z))

pub run-requires : goal.run-requires
run-requires c =
    let a = c.args in
    runnable a.c a.trace.now a.rows.now a.words.now
    (check-accepted a.c a.trace.now a.rows.now a.words.now
    (sym (c.in_ok-lengths_refusal.ensures a.trace.now a.rows.now a.words.now refl refl refl)))

pub returns : goal.returns
returns c =
    let a = c.args in
    let run = c.run in
    let z = sym (c.in_ok-lengths_refusal.ensures a.trace.now a.rows.now a.words.now refl refl refl) in
    checked a.c a.trace.now a.rows.now a.words.now _ _ z
    (filled a.c a.trace.now a.rows.now a.words.now (check-accepted a.c a.trace.now a.rows.now a.words.now z) _ _ run.result
    run.ensures)
