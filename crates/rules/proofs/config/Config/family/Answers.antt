-- `Config::family` meets its contract: a kind that is not refused has a family. Assumes nothing.
use Rattle.rules.proofs.Families.{has-family}
use Rattle.rules.proofs.config.Config.family.Goals as goal

pub unwrap-requires : goal.unwrap-requires
unwrap-requires c = has-family c.args.self.kind c.requires c.try_from.result c.try_from.ensures
