use Rattle.dump_reader.specs.Machine.{unfinished}
use mathlib.Core.Path.{sym}
use borrow.Author.Tests.{eq-eqb, ne_eqb}
use Rattle.dump_reader.proofs.ending.unfinished_at.Goals as goal

pub returns-then-r-eq20 : goal.returns-then-r-eq20
unfolding unfinished
returns-then-r-eq20 c = simp (c.at_end.ensures, sym c.wave_at.ensures, eq-eqb _ _ c.if-r-eq20.true)

pub returns : goal.returns
unfolding unfinished
returns c = simp (c.at_end-2.ensures, ne_eqb _ _ c.if-r-eq20.false)
