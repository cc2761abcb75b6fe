-- `edited::back::edit_and_take_back` meets its contract, from the contracts of the calls alone. Assumes nothing.
use mathlib.Core.Path.{refl, sym}
use Rattle.edit_samples.proofs.Refusals.{editable}
use Rattle.edited.proofs.BackAnswers.{refused, room, room-again, done}
use Rattle.edited.proofs.back.edit_and_take_back.Goals as goal

pub returns-in-Err : goal.returns-in-Err
returns-in-Err c =
    let a = c.args in
    rw c.from-none.ensures
    (refused a.c (record { trace = a.trace.now; rows = a.rows.now; words = a.words.now }) a.a a.b a.samples.now c.in-Err.refusal
    (c.in-Err.ensures a.trace.now a.rows.now a.words.now a.samples.now refl refl refl refl))

pub swap_and_recheck-edit-requires : goal.swap_and_recheck-edit-requires
swap_and_recheck-edit-requires c =
    let a = c.args in
    let is = c.in_default.ensures a.trace.now a.rows.now a.words.now a.samples.now refl refl refl refl in
    room (editable a.c a.trace.now a.rows.now a.words.now a.a a.b a.samples.now (sym is))

pub swap_and_recheck-back-requires : goal.swap_and_recheck-back-requires
swap_and_recheck-back-requires c =
    let a = c.args in
    let is = c.in_default.ensures a.trace.now a.rows.now a.words.now a.samples.now refl refl refl refl in
    room-again (editable a.c a.trace.now a.rows.now a.words.now a.a a.b a.samples.now (sym is)) c.swap_and_recheck-edit.ensures

pub returns : goal.returns
returns c =
    let a = c.args in
    let is = c.in_default.ensures a.trace.now a.rows.now a.words.now a.samples.now refl refl refl refl in
    done (editable a.c a.trace.now a.rows.now a.words.now a.a a.b a.samples.now (sym is))
    c.swap_and_recheck-edit.ensures c.swap_and_recheck-back.ensures
