use Rattle.dump_reader.specs.Machine.{last_place}
use mathlib.Core.Path.{◌∙◌, sym}
use Rattle.dump_reader.proofs.word_end.last_place.Goals as goal

pub returns-then-table_good : goal.returns-then-table_good
unfolding last_place
returns-then-table_good c = simp (sym c.table_good.ensures ∙ c.if-table_good.true, sym c.table_good.ensures, sym c.bounded_count-n.ensures.0, sym c.text_is.ensures ∙ c.if-text_is.true, sym c.text_is.ensures)

pub returns-then-text_is : goal.returns-then-text_is
unfolding last_place
returns-then-text_is c = simp (sym c.table_good.ensures ∙ c.if-table_good.false, sym c.table_good.ensures, sym c.bounded_count-n.ensures.0, sym c.text_is.ensures ∙ c.if-text_is.true, sym c.text_is.ensures)

pub returns : goal.returns
unfolding last_place
returns c = simp (sym c.text_is.ensures ∙ c.if-text_is.false, sym c.text_is.ensures)
