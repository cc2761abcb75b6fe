use mathlib.Core.Path.{sym}
use Rattle.dump_reader.proofs.word_end.end_declaration.Goals as goal

pub returns : goal.returns
returns c = (simp (c.behind.ensures, sym c.declaration-head.ensures.0, c.declaration-head.ensures.1), simp (c.behind.ensures, sym c.declaration-head.ensures.0, c.declaration-head.ensures.1))
