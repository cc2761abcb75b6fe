-- `selvedgeon::calls::selvedgeon_edit_and_take_back` meets its contract: that of `edit_and_take_back`, of the configuration that the numbers make. Assumes nothing.
use Rattle.selvedgeon.proofs.calls.selvedgeon_edit_and_take_back.Goals as goal

pub returns : goal.returns
returns c =
    let d = c.before.before in
    rw d.config_of-config.ensures at d.edit_and_take_back.ensures
