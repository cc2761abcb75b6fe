use Rattle.dump_reader.specs.Machine.{refused}
use Rattle.dump_load.specs.Loading.{answered}
use mathlib.Core.Path.{sym}
use borrow.Author.Tests.{le-leb, lt-leb}
use Rattle.dump_load.proofs.answer.answer_of.Goals as goal

pub returns-then-place-lt100 : goal.returns-then-place-lt100
unfolding refused answered
returns-then-place-lt100 c = simp (lt-leb _ _ c.if-place-lt100.true, sym c.place_of-place.ensures)

pub returns : goal.returns
unfolding refused answered
returns c = simp (le-leb _ _ c.if-place-lt100.false, sym c.place_of-place.ensures)
