-- `value::step::value_step` meets its contract: each way out is a case of the definition (`TriggerCode`). Assumes nothing.
use Prim.Native.Nat.{◌<◌}
use mathlib.Core.Path.{sym, ◌∙◌}
use mathlib.Core.Bool.{true, false}
use native.Mathlib.Omega.{arith}
use Rattle.rules.proofs.Good.{q-within, value-config}
use Rattle.trigger.proofs.TriggerCode.{value-steps, idle-value, opened-trigger, opened-window, opened-left, no-trigger, open-window, left-of}
use Rattle.value.proofs.step.value_step.Goals as goal

pub returns-then-word-ne0 : goal.returns-then-word-ne0
returns-then-word-ne0 c =
    let s = c in
    let a = s.args in
    let some : 0 < a.word = omega (arith, c.if-word-ne0.true) in
    value-steps a.c a.word a.frame (value-config a.c s.requires.0 s.requires.1).low _ false (no-trigger a.c a.word a.frame some)
    (open-window a.c a.word a.frame some) (left-of a.c a.word a.frame some a.word) c.value_row.result c.value_row.ensures

pub sees_trigger-requires : goal.sees_trigger-requires
sees_trigger-requires c =
    let s = c in (q-within s.args.c s.requires.0, (value-config s.args.c s.requires.0 s.requires.1).q-width, s.requires.3)

pub returns-then-not-sees_trigger : goal.returns-then-not-sees_trigger
returns-then-not-sees_trigger c =
    let a = c.args in
    idle-value a.c a.word a.frame c.if-word-ne0.false (sym c.sees_trigger.ensures ∙ c.if-not-sees_trigger.true)

pub returns : goal.returns
returns c =
    let s = c in
    let a = s.args in
    let z = c.if-word-ne0.false in
    let seen = sym c.sees_trigger.ensures ∙ c.if-not-sees_trigger.false in
    value-steps a.c a.word a.frame (value-config a.c s.requires.0 s.requires.1).low a.c.n true (opened-trigger a.c a.word a.frame z seen)
    (opened-window a.c a.word a.frame z seen) (opened-left a.c a.word a.frame z seen a.word) c.value_row-2.result c.value_row-2.ensures
