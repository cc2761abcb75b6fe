use mathlib.Core.Path.{sym}
use Rattle.dump_reader.proofs.ending.at_end.Goals as goal

pub returns : goal.returns
returns c = simp (sym c.at_place.ensures)
