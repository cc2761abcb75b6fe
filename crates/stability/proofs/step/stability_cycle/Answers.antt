-- `stability::step::stability_cycle` meets its contract. Assumes nothing.
use Rattle.stability.proofs.step.stability_cycle.Goals as goal

pub seen_in-seen-requires : goal.seen_in-seen-requires
seen_in-seen-requires c = (c.requires.0, c.requires.1.0)

pub returns : goal.returns
returns c = c.tracked_cycle.ensures c.args.frame c.seen_in-seen.ensures c.tracked_in.ensures
