-- `sequence::step::sequence_cycle` meets its contract. Assumes nothing.
use Rattle.sequence.proofs.step.sequence_cycle.Goals as goal

pub events_in-requires : goal.events_in-requires
events_in-requires c = (c.requires.0, c.requires.1.0)

pub returns : goal.returns
returns c = c.events_cycle.ensures c.args.frame c.events_in.ensures
