-- `failures::list::failures` meets its contract: each refusal comes before any store, in the order of the numbers, and what is not refused is what `write_all`
-- takes. Assumes nothing.
use mathlib.Core.Path.{refl, ap, ◌∙◌}
use native.Mathlib.Omega.{arith}
use lib.ListN.{length}
use lib.Seq.{length-sets}
use Rattle.rules.specs.Refusals.{number_of}
use Rattle.rules.proofs.Refusals.{is-refused}
use Rattle.failures.specs.Answers.{ListAnswer}
use Rattle.failures.proofs.Answered.{passed-up, refused-lengths, accepted-lengths, too_short, all_fit, all-written}
use Rattle.failures.proofs.list.failures.Goals as goal

pub returns-in_err-lengths_refusal : goal.returns-in_err-lengths_refusal
returns-in_err-lengths_refusal c =
    let a = c.args in
    let e = c.in_err-lengths_refusal.field-0.0 in
    let frames = c.frames_in-cycles in
    passed-up c.from_residual.result e c.from_residual.ensures.1 (ListAnswer a.c a.trace.now a.list.now a.list.now)
    (refused-lengths a.c a.trace.now frames.result (number_of e) frames.ensures c.in_err-lengths_refusal.ensures a.list.now (λ z. omega (arith, is-refused e, z)))

pub count_all-count-requires : goal.count_all-count-requires
count_all-count-requires c =
    let a = c.args in
    let frames = c.frames_in-cycles in
    accepted-lengths a.c a.trace.now frames.result 0 frames.ensures c.in_ok-lengths_refusal.ensures refl

pub write_all-requires : goal.write_all-requires
write_all-requires c =
    let a = c.args in
    let frames = c.frames_in-cycles in
    let counted = c.count_all-count in
    let ok = accepted-lengths a.c a.trace.now frames.result 0 frames.ensures c.in_ok-lengths_refusal.ensures refl in (
      ok.0,
      ok.1,
      all_fit a.c a.trace.now frames.result 0 frames.ensures c.in_ok-lengths_refusal.ensures refl a.list.now counted.result counted.ensures.0 c.if-list-count.false,
    )

pub returns-then-list-count : goal.returns-then-list-count
returns-then-list-count c =
    let a = c.args in
    let frames = c.frames_in-cycles in
    let counted = c.count_all-count in
    too_short a.c a.trace.now frames.result 0 frames.ensures c.in_ok-lengths_refusal.ensures refl a.list.now counted.result counted.ensures.0 c.if-list-count.true

pub returns : goal.returns
returns c =
    let a = c.args in
    let frames = c.frames_in-cycles in
    let counted = c.count_all-count in
    all-written a.c a.trace.now frames.result 0 frames.ensures c.in_ok-lengths_refusal.ensures refl a.list.now counted.result counted.ensures.0
    c.if-list-count.false counted.ensures.1 _ c.write_all.ensures
