use mathlib.Core.Bool.{false≢true}
use mathlib.Core.Path.{◌∙◌, sym}
use Rattle.dump_reader.proofs.piece.begins_change.Goals as goal

pub returns-then-r-ne0 : goal.returns-then-r-ne0
returns-then-r-ne0 c = λ h. absurd (false≢true h)

pub returns-then-r-ne20 : goal.returns-then-r-ne20
returns-then-r-ne20 c = λ h. absurd (false≢true h)

pub returns-then-is_refused : goal.returns-then-is_refused
returns-then-is_refused c = λ h. absurd (false≢true h)

pub returns-then-is_blank : goal.returns-then-is_blank
returns-then-is_blank c = λ h. absurd (false≢true h)

pub returns : goal.returns
returns c = λ h. (c.if-r-ne0.false, c.if-r-ne20.false, sym c.is_refused.ensures ∙ c.if-is_refused.false, sym c.is_blank.ensures ∙ c.if-is_blank.false)
