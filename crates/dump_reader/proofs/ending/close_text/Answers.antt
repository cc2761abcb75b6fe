use Rattle.dump_reader.specs.Machine.{closing}
use mathlib.Core.Path.{◌∙◌, sym}
use Rattle.dump_reader.proofs.ending.close_text.Goals as goal

pub returns-then-is_complete : goal.returns-then-is_complete
unfolding closing
returns-then-is_complete c = λ digits. simp (c.at_end.ensures, sym c.close_stamp-wave.ensures.0, c.close_stamp-wave.ensures.1, sym c.is_complete.ensures ∙ c.if-is_complete.true, sym c.is_complete.ensures)

pub returns : goal.returns
unfolding closing
returns c = λ digits. simp (c.unfinished_at.ensures, sym c.is_complete.ensures ∙ c.if-is_complete.false, sym c.is_complete.ensures)
