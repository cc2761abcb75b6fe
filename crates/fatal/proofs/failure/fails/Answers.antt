-- `fatal::failure::fails` meets its contract. Assumes nothing.
use Rattle.rules.proofs.Rows.{low-marks}
use Rattle.fatal.proofs.failure.fails.Goals as goal

pub returns : goal.returns
returns c = low-marks c.args.row
