-- `transition::step::transition_cycle` meets its contract. Assumes nothing.
use Rattle.transition.proofs.step.transition_cycle.Goals as goal

pub returns : goal.returns
returns c = c.values_cycle.ensures c.args.frame c.values_in.ensures c.known_in.ensures
