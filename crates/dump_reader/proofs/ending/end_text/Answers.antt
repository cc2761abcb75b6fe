use Rattle.dump_reader.proofs.Laws as laws
use Rattle.dump_reader.specs.Machine.{finish}
use mathlib.Core.Path.{◌∙◌, sym}
use Rattle.dump_reader.proofs.ending.end_text.Goals as goal

pub returns-then-is_refused : goal.returns-then-is_refused
unfolding finish
returns-then-is_refused c = simp (sym c.is_refused.ensures ∙ c.if-is_refused.true, sym c.is_refused.ensures)

pub returns-then-r-eq0 : goal.returns-then-r-eq0
unfolding finish
returns-then-r-eq0 c = c.finish_at.ensures _ ∙ laws.end-outside _ _ c.count_lines-count.ensures (sym c.is_refused.ensures ∙ c.if-is_refused.false) c.if-r-eq0.true

pub returns : goal.returns
unfolding finish
returns c = c.finish_at-2.ensures _ ∙ laws.end-inside _ _ c.count_lines-count.ensures (sym c.is_refused.ensures ∙ c.if-is_refused.false) _ c.if-r-eq0.false c.end_word-s.ensures
