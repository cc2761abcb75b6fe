-- `packed_list::list::packed_failures` meets its contract: the list's, with the two numbers packed. Assumes nothing.
use Rattle.std.proofs.Common.{◌≡◌, ◌/◌, ◌%◌, arith}
use Rattle.packed_list.proofs.list.packed_failures.Goals as goal

pub returns-in-Ok : goal.returns-in-Ok
returns-in-Ok c =
    let count = c.in-Ok.count in
    let listed = c.in-Ok.ensures in
    let high : count / 4294967296 ≡ 0 = omega (arith, listed.few) in
    let low : count % 4294967296 ≡ count = omega (arith, listed.few) in
    rw (high, low) listed
