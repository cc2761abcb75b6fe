use mathlib.Core.Path.{sym}
use Rattle.dump_reader.proofs.word_end.end_change.Goals as goal

pub returns : goal.returns
returns c = (simp (c.behind.ensures, sym c.change_word-wave.ensures.0, c.change_word-wave.ensures.1, c.change_word-wave.ensures.2, sym c.bounded_count-n.ensures.0), simp (c.behind.ensures, sym c.change_word-wave.ensures.0, c.change_word-wave.ensures.1, c.change_word-wave.ensures.2, sym c.bounded_count-n.ensures.0), simp (c.behind.ensures, sym c.change_word-wave.ensures.0, c.change_word-wave.ensures.1, c.change_word-wave.ensures.2, sym c.bounded_count-n.ensures.0))
