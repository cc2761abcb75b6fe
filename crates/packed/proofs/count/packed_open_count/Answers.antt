-- `packed::count::packed_open_count` meets its contract: the open count's, with the two numbers packed. Assumes nothing.
use Rattle.std.proofs.Common.{◌≡◌, ◌/◌, ◌%◌, ◌≤◌, arith}
use Rattle.packed.proofs.Counts.{count_low}
use Rattle.packed.proofs.count.packed_open_count.Goals as goal

pub returns-in-Ok : goal.returns-in-Ok
returns-in-Ok c =
    let a = c.args in
    let count = c.in-Ok.count in
    let few : count ≤ 64 = count_low a.config a.word 0 count c.ranges.word.fits c.in-Ok.ensures.answer in
    let high : count / 256 ≡ 0 = omega arith in
    let low : count % 256 ≡ count = omega arith in
    rw (high, low) c.in-Ok.ensures.answer
