-- `selvedgeon::calls::selvedgeon_failures` meets its contract: that of `packed_failures`, of the configuration that the numbers make. Assumes nothing.
use Rattle.selvedgeon.proofs.calls.selvedgeon_failures.Goals as goal

pub returns : goal.returns
returns c = let d = c.before.before in rw d.config_of-config.ensures at d.packed_failures.ensures
