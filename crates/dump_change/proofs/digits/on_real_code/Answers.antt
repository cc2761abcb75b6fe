use Rattle.dump_change.specs.Change.{on_real_code}
use mathlib.Core.Path.{◌∙◌, sym}
use borrow.Author.Tests.{le-ltb, lt-ltb}
use Rattle.dump_change.proofs.digits.on_real_code.Goals as goal

pub returns-then-t-gt8 : goal.returns-then-t-gt8
unfolding on_real_code
returns-then-t-gt8 c = simp (c.wave_at.ensures, lt-ltb _ _ c.if-t-gt8.true)

pub returns-then-text_is : goal.returns-then-text_is
unfolding on_real_code
returns-then-text_is c = simp (c.wave_at-then-text_is.ensures, sym c.text_is.ensures ∙ c.if-text_is.true, le-ltb _ _ c.if-t-gt8.false)

pub returns : goal.returns
unfolding on_real_code
returns c = simp (c.real_test.ensures, sym c.find-i.ensures, sym c.text_is.ensures ∙ c.if-text_is.false, le-ltb _ _ c.if-t-gt8.false)
