use Rattle.dump_change.specs.Change.{in_dump}
use mathlib.Core.Path.{◌∙◌, sym}
use Rattle.dump_change.proofs.dollar.in_dump.Goals as goal

pub returns-then-text_is : goal.returns-then-text_is
unfolding in_dump
returns-then-text_is c = simp (c.with_dumping.ensures, sym c.text_is.ensures ∙ c.if-text_is.true)

pub returns : goal.returns
unfolding in_dump
returns c = simp (c.wave_at.ensures, sym c.text_is.ensures ∙ c.if-text_is.false)
