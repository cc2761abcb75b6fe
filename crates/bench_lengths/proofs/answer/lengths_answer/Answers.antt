-- `bench_lengths::answer::lengths_answer` meets its contract: refusal 9 is tested first, then 5. Assumes nothing.
use mathlib.Core.Bool.{true, false}
use native.Mathlib.Omega.{arith}
use Rattle.bench_lengths.specs.Lengths.{lengths_fit}
use Rattle.bench_lengths.proofs.Lengths.{too_many, by-fit}
use Rattle.bench_lengths.proofs.answer.lengths_answer.Goals as goal

pub returns-then-checkers-gt64 : goal.returns-then-checkers-gt64
returns-then-checkers-gt64 c = let a = c.args in omega (arith, too_many a.checkers a.frames a.words a.rows c.if-checkers-gt64.true)

pub returns-then-not-frames-checkers : goal.returns-then-not-frames-checkers
unfolding lengths_fit
returns-then-not-frames-checkers c =
    let a = c.args in
    omega (arith, by-fit a.checkers a.frames a.words a.rows false c.if-checkers-gt64.false c.if-not-frames-checkers.true)

pub returns : goal.returns
unfolding lengths_fit
returns c =
    let a = c.args in
    omega (arith, by-fit a.checkers a.frames a.words a.rows true c.if-checkers-gt64.false c.if-not-frames-checkers.false)
