-- `selvedgeon::calls::selvedgeon_recheck` meets its contract: that of `recheck_into`, of the configuration that the numbers make. Assumes nothing.
use Rattle.selvedgeon.proofs.calls.selvedgeon_recheck.Goals as goal

pub returns : goal.returns
returns c = let d = c.before.before in rw d.config_of-config.ensures at d.recheck_into.ensures
