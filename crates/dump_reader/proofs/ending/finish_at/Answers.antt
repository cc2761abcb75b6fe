use Rattle.dump_reader.proofs.Laws as laws
use Rattle.dump_reader.specs.Machine.{finish_at}
use mathlib.Core.Path.{◌∙◌, sym}
use Rattle.dump_reader.proofs.ending.finish_at.Goals as goal

pub returns-then-is_refused : goal.returns-then-is_refused
unfolding finish_at
returns-then-is_refused c = λ digits. simp (sym c.is_refused.ensures ∙ c.if-is_refused.true, sym c.is_refused.ensures)

pub returns : goal.returns
unfolding finish_at
returns c = λ digits. c.close_text.ensures digits ∙ laws.still_open _ _ (sym c.is_refused.ensures ∙ c.if-is_refused.false)
