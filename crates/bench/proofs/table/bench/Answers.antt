-- `bench::table::bench` meets its contract: what the loops ask, once the lengths are tested, and then the checkers. Assumes nothing.
use mathlib.Core.Path.{refl, sym}
use lib.ListN.{length}
use Rattle.bench_lengths.proofs.Lengths.{fitting}
use Rattle.bench.proofs.Cycles.{lengths-unnamed}
use Rattle.bench.proofs.table.bench.Goals as goal

pub test_all-requires : goal.test_all-requires
test_all-requires c =
    let a = c.args in
    let f = fitting (length a.table.now) (length a.frames.now) (length a.words.now) (length a.rows.now) (sym c.in-Ok.ensures) in (f.words_are, f.few)

pub step_all-requires : goal.step_all-requires
step_all-requires c =
    let a = c.args in
    let f = fitting (length a.table.now) (length a.frames.now) (length a.words.now) (length a.rows.now) (sym c.in-Ok.ensures) in
    record { frames_length = f.frames_are; words_length = f.words_are; rows_length = f.rows_are; all_are_good = c.in_ok-test_all-in-Ok.ensures.tested.all_are_good refl }

pub returns-in-Err-clause-no_cycle : goal.returns-in-Err-clause-no_cycle
returns-in-Err-clause-no_cycle c = let a = c.args in lengths-unnamed c.in-Err.refusal (length a.table.now) (length a.frames.now) (length a.words.now) (length a.rows.now) c.in-Err.ensures
