-- `one_step::family::going_step` meets its contract: a kind that is not refused has a family, and each family a step of its own. Assumes nothing.
use Rattle.rules.proofs.Good.{kind-low}
use Rattle.one_step.proofs.family.going_step.Goals as goal

pub family-requires : goal.family-requires
family-requires c = kind-low c.args.c c.requires.0
