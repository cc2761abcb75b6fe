-- `families::family::run_family` meets its contract: a kind that is not refused has a family. Assumes nothing.
use Rattle.rules.proofs.Good.{kind-low}
use Rattle.families.proofs.family.run_family.Goals as goal

pub family-requires : goal.family-requires
family-requires g c = kind-low c.args.c c.requires.0
