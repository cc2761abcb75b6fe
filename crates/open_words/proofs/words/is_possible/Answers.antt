-- `open_words::words::is_possible` meets its contract. Assumes nothing.
use mathlib.Core.Path.{refl, sym, ◌∙◌}
use Rattle.rules.specs.Config.{fatal}
use Rattle.rules.specs.Possible.{possible}
use Rattle.open_words.proofs.words.is_possible.Goals as goal

pub returns-then-is_unfinished : goal.returns-then-is_unfinished
unfolding possible
returns-then-is_unfinished c = rw (sym c.is_unfinished.ensures ∙ c.if-is_unfinished.true) refl

pub returns : goal.returns
unfolding possible fatal
returns c = rw (c.can_fail.ensures, sym c.is_unfinished.ensures ∙ c.if-is_unfinished.false) refl
