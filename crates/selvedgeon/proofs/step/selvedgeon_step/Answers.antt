-- `selvedgeon::step::selvedgeon_step` meets its contract: that of `step_bytes`, of the configuration that the numbers make. Assumes nothing.
use Rattle.selvedgeon.proofs.step.selvedgeon_step.Goals as goal

pub returns : goal.returns
returns c = let d = c.before.before in rw d.config_of-config.ensures at d.step_bytes.ensures
