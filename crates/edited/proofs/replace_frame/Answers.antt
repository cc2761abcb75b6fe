-- `edited::replace_frame` meets its contract: each return is one of the three answers, from the contracts of the calls alone. Assumes nothing.
use native.Mathlib.Omega.{arith}
use mathlib.Core.Path.{refl, ◌∙◌}
use Rattle.std.proofs.lemmas.Result.{err_from_is_err_and}
use Rattle.rules.proofs.Refusals.{is-refused, no-cycle, passes-number}
use Rattle.recheck_refusals.proofs.Refusals.{check-low}
use Rattle.edited.proofs.Answers.{refused, no_cycle, has-cycle, done}
use Rattle.edited.proofs.replace_frame.Goals as goal

pub returns-in_err-full_check : goal.returns-in_err-full_check
returns-in_err-full_check c =
    let a = c.args in
    let e = c.in_err-full_check.field-0.0 in
    let check = c.in_err-full_check.ensures in
    let r = c.from_residual.result in
    let p = err_from_is_err_and r c.from_residual.ensures.1 in
    let none = no-cycle r _ (passes-number r e c.from_residual.ensures.1 ∙ check.refusal_is) (omega (arith, check-low a.c a.trace.now a.rows.now a.words.now 0 0)) in
    rw (none, p.1, p.2) (refused check (λ z. omega (arith, is-refused e, z)))

pub returns-then-rows-t : goal.returns-then-rows-t
returns-then-rows-t c = no_cycle c.in_ok-full_check.ensures refl c.if-rows-t.true

pub store_frame-requires : goal.store_frame-requires
store_frame-requires c = has-cycle c.in_ok-full_check.ensures refl c.if-rows-t.false

pub returns : goal.returns
returns c = done c.in_ok-full_check.ensures refl c.if-rows-t.false c.store_frame.ensures c.recheck.ensures
