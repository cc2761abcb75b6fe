-- `resume::run::resume` meets its contract. The loop's invariant is `Going`: the run from a has come to cycle t with no cycle from b on where it could
-- stop. A block that is entered where the run does not stop comes further, so the measure, what is left of the record, falls. Assumes nothing.
use Prim.Native.Nat.{◌-◌, ◌≤◌}
use mathlib.Core.Logic.{⊎_elim}
use native.Mathlib.Omega.{arith}
use lib.ListN.{length}
use Rattle.bits.proofs.Tests.{bound-true, bound-rest, bound-false}
use Rattle.resume.proofs.Going.{going-none, runnable, further, moved-low, moved-high, going_more, going_done}
use Rattle.resume.proofs.run.resume.Goals as goal

pub all-tally-requires : goal.all-tally-requires
all-tally-requires c = tt

pub loop-t-init : goal.loop-t-init
loop-t-init c =
    let a = c.args in
    going-none a.c a.trace.now a.rows.now a.words.now a.a a.b a.word c.requires c.all-tally.result.counts c.all-tally.ensures

pub goes_on-requires : goal.goes_on-requires
goes_on-requires c = tt

pub block_end-to-requires : goal.block_end-to-requires
block_end-to-requires c = (
  c.loop-t.invariant.low,
  bound-true _ _ _ c.loop-t-test.true,
  omega (arith, c.requires.high, c.requires.rows_length),
  omega (arith, c.requires.short, c.requires.rows_length),
)

pub marks_in-old-requires : goal.marks_in-old-requires
marks_in-old-requires c =
    let at = c.loop-t in
    (omega (arith, c.block_end-to.ensures.0), omega (arith, c.block_end-to.ensures.1, at.invariant.rows_are.same_length, c.requires.rows_length), omega (arith, c.block_end-to.ensures.1, c.requires.short))

pub run-reached-requires : goal.run-reached-requires
run-reached-requires c =
    let a = c.args in
    let at = c.loop-t in
    runnable a.c a.trace.now a.rows.now a.words.now a.a a.b a.word c.requires at.rows at.words at.t at.own at.kept at.tally.counts at.invariant c.block_end-to.result c.block_end-to.ensures.0 (omega (arith, c.block_end-to.ensures.1, c.requires.rows_length)) c.block_end-to.ensures.2

pub marks_in-requires : goal.marks_in-requires
marks_in-requires c =
    let at = c.loop-t in
    let run = c.run-reached in (
      omega (arith, c.block_end-to.ensures.0),
      omega (arith, c.block_end-to.ensures.1, run.ensures.come.rows_are.same_length, at.invariant.rows_are.same_length, c.requires.rows_length),
      omega (arith, c.block_end-to.ensures.1, c.requires.short),
    )

pub moved-tally-requires : goal.moved-tally-requires
moved-tally-requires c = λ i h.
    let a = c.args in
    let at = c.loop-t in
    let run = c.run-reached in
    let old = c.marks_in-old.ensures.are i h in
    let new = c.marks_in.ensures.are i h in (
      omega (arith, old, new, moved-low a.c a.trace.now a.rows.now a.words.now a.a a.b a.word c.requires at.rows at.words at.t at.own at.kept at.tally.counts at.invariant c.block_end-to.result c.block_end-to.ensures.0 (omega (arith, c.block_end-to.ensures.1, c.requires.rows_length)) c.block_end-to.ensures.2 _ _ run.result run.ensures i h),
      omega (arith, new, moved-high a.c a.trace.now a.rows.now a.words.now a.a a.b a.word c.requires at.rows at.words at.t at.own at.kept at.tally.counts at.invariant c.block_end-to.result c.block_end-to.ensures.0 (omega (arith, c.block_end-to.ensures.1, c.requires.rows_length)) c.block_end-to.ensures.2 _ _ run.result run.ensures i h),
    )

pub loop-t-smaller : goal.loop-t-smaller
loop-t-smaller c =
    let a = c.args in
    let at = c.loop-t in
    let run = c.run-reached in
    omega (arith, further a.c a.trace.now a.rows.now a.words.now a.a a.b a.word c.requires at.rows at.words at.t at.own at.kept at.tally.counts at.invariant c.block_end-to.result c.block_end-to.ensures.0 (omega (arith, c.block_end-to.ensures.1, c.requires.rows_length)) c.block_end-to.ensures.2 _ _ run.result run.ensures (λ l. c.goes_on.ensures.0 (bound-rest at.t (length a.rows.now) c.goes_on.result c.loop-t-test.true) l), run.ensures.come.high, c.block_end-to.ensures.1, c.requires.rows_length)

pub loop-t-preserved : goal.loop-t-preserved
loop-t-preserved c =
    let a = c.args in
    let at = c.loop-t in
    let run = c.run-reached in
    going_more a.c a.trace.now a.rows.now a.words.now a.a a.b a.word c.requires at.rows at.words at.t at.own at.kept at.tally.counts at.invariant c.block_end-to.result c.block_end-to.ensures.0 (omega (arith, c.block_end-to.ensures.1, c.requires.rows_length)) c.block_end-to.ensures.2 _ _ run.result run.ensures c.moved-tally.result.counts
    (λ i h. omega (arith, c.moved-tally.ensures i h, c.marks_in-old.ensures.are i h, c.marks_in.ensures.are i h))

pub shape_of-rows : goal.shape_of-rows
shape_of-rows c = c.loop-t.invariant.rows_are.same_length

pub shape_of-words : goal.shape_of-words
shape_of-words c = c.loop-t.invariant.words_are.same_length

pub returns : goal.returns
returns c =
    let a = c.args in
    let at = c.loop-t in
    going_done a.c a.trace.now a.rows.now a.words.now a.a a.b a.word c.requires at.rows at.words at.t at.own at.kept at.tally.counts at.invariant
    (⊎_elim (λ (h : length a.rows.now ≤ at.t). omega (arith, c.requires.rows_length, c.requires.high)) (λ h. (c.goes_on.ensures.1 h).0) (bound-false _ _ _ c.loop-t-test.false))
    (λ l. ⊎_elim (λ (h : length a.rows.now ≤ at.t). absurd (omega (arith, c.requires.rows_length))) (λ h. (c.goes_on.ensures.1 h).1) (bound-false _ _ _ c.loop-t-test.false))
