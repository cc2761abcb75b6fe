use Rattle.dump_reader.specs.Machine.{last_place, last_store}
use mathlib.Core.Path.{sym}
use Rattle.dump_reader.proofs.word_end.end_last.Goals as goal

pub returns : goal.returns
unfolding last_place last_store
returns c = (simp (c.behind.ensures, sym c.at_place-head.ensures, sym c.connect_last-place.ensures.0, c.connect_last-place.ensures.1), simp (c.behind.ensures, sym c.at_place-head.ensures, sym c.connect_last-place.ensures.0, c.connect_last-place.ensures.1))
