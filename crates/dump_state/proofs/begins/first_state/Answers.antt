use Rattle.dump_state.proofs.Laws as laws
use Rattle.dump_state.proofs.begins.first_state.Goals as goal

pub returns : goal.returns
returns c = laws.first_made _ _ _ c.first_reader-reader.ensures
