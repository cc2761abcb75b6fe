-- `selvedgeon::calls::selvedgeon_check` meets its contract: that of `full_check`, of the configuration that the numbers make. Assumes nothing.
use Rattle.selvedgeon.proofs.calls.selvedgeon_check.Goals as goal

pub returns : goal.returns
returns c = rw c.refusal_number.ensures (rw c.config_of-config.ensures at c.full_check.ensures)
