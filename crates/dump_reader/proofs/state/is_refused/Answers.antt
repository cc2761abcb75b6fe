use Rattle.dump_reader.specs.Machine.{refused}
use Rattle.dump_reader.proofs.state.is_refused.Goals as goal

pub returns : goal.returns
unfolding refused
returns c = simp c.place_of.ensures
