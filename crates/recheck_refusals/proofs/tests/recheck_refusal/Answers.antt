-- `recheck_refusals::tests::recheck_refusal` meets its contract: the tests come in the order of the refusal numbers. Assumes nothing.
use Prim.Native.Nat.{ℕ}
use mathlib.Core.Path.{refl, sym, ◌∙◌}
use mathlib.Core.List.{List}
use native.Mathlib.Omega.{arith}
use lib.ListN.{replicate, length-replicate}
use Rattle.rules.proofs.Refusals.{is-refused, no-cycle, passes-number}
use Rattle.lengths.proofs.Refusals.{check-accepted}
use Rattle.recheck_refusals.proofs.Refusals.{check-low, refused-first, refused-range, refused-word, not_refused}
use Rattle.recheck_refusals.proofs.tests.recheck_refusal.Goals as goal

pub returns-in_err-lengths_refusal : goal.returns-in_err-lengths_refusal
returns-in_err-lengths_refusal c = λ ts rs p q.
    let a = c.args in
    let e = c.in_err-lengths_refusal.field-0.0 in
    let r = c.from_residual.result in
    let n = passes-number r e c.from_residual.ensures.1 in
    let is = n ∙ c.in_err-lengths_refusal.ensures ts rs a.words.now p q refl in
    rw (no-cycle r _ is (omega (arith, check-low a.c ts rs a.words.now a.a a.b)))
    (refused-first a.c ts rs a.words.now a.a a.b _ is (λ z. omega (arith, is-refused e, n, z)))

pub returns-then-not-a-b : goal.returns-then-not-a-b
returns-then-not-a-b c = λ ts rs p q.
    let a = c.args in
    refused-range a.c ts rs a.words.now a.a a.b (sym (c.in_ok-lengths_refusal.ensures ts rs a.words.now p q refl)) (rw q (c.if-not-a-b.true))

pub first_impossible-spoiled-requires : goal.first_impossible-spoiled-requires
first_impossible-spoiled-requires c =
    let a = c.args in
    let ts : List ℕ = replicate a.trace 0 in
    let rs : List ℕ = replicate a.rows 0 in
    (check-accepted a.c ts rs a.words.now
    (sym (c.in_ok-lengths_refusal.ensures ts rs a.words.now (length-replicate a.trace 0) (length-replicate a.rows 0) refl))).good

pub returns-then-spoiled-words : goal.returns-then-spoiled-words
returns-then-spoiled-words c = λ ts rs p q.
    let a = c.args in
    let first = c.first_impossible-spoiled in
    refused-word a.c ts rs a.words.now a.a a.b (sym (c.in_ok-lengths_refusal.ensures ts rs a.words.now p q refl))
    (rw q (c.if-not-a-b.false)) first.result first.ensures c.if-spoiled-words.true

pub returns : goal.returns
returns c = λ ts rs p q.
    let a = c.args in
    let first = c.first_impossible-spoiled in
    not_refused a.c ts rs a.words.now a.a a.b (sym (c.in_ok-lengths_refusal.ensures ts rs a.words.now p q refl))
    (rw q (c.if-not-a-b.false)) first.result first.ensures c.if-spoiled-words.false
