use Rattle.dump_reader.proofs.Laws as laws
use Rattle.dump_reader.specs.Machine.{byte_step}
use mathlib.Core.Path.{◌∙◌, sym}
use Rattle.dump_reader.proofs.piece.read_byte.Goals as goal

pub returns-then-is_blank : goal.returns-then-is_blank
unfolding byte_step
returns-then-is_blank c = simp (c.blank_byte.ensures, sym c.is_blank.ensures ∙ c.if-is_blank.true, sym c.is_blank.ensures)

pub returns : goal.returns
unfolding byte_step
returns c = c.word_byte.ensures _ _ ∙ laws.not-blank _ _ (sym c.is_blank.ensures ∙ c.if-is_blank.false)
