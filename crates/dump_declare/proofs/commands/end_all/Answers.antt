use Rattle.dump_declare.specs.Declare.{ends_all}
use borrow.Author.Tests.{eq-eqb, ne_eqb}
use Rattle.dump_declare.proofs.commands.end_all.Goals as goal

pub returns-then-h-eq0 : goal.returns-then-h-eq0
unfolding ends_all
returns-then-h-eq0 c = simp (c.at_place.ensures, eq-eqb _ _ c.if-h-eq0.true)

pub returns : goal.returns
unfolding ends_all
returns c = simp (c.at_place-2.ensures, ne_eqb _ _ c.if-h-eq0.false)
