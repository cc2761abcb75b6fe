-- `selvedgeon::numbers::selvedgeon_open_count` meets its contract: that of `packed_open_count`, of the configuration that the numbers make. Assumes nothing.
use Rattle.selvedgeon.proofs.numbers.selvedgeon_open_count.Goals as goal

pub returns : goal.returns
returns c = rw c.config_of-config.ensures at c.packed_open_count.ensures
