-- `open_words::words::has_no_reference` meets its contract, by computation. Assumes nothing.
use mathlib.Core.Path.{refl}
use Rattle.rules.specs.Possible.{without_reference}
use Rattle.open_words.proofs.words.has_no_reference.Goals as goal

pub returns : goal.returns
unfolding without_reference
returns c = refl
