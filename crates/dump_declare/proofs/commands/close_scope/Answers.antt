use Rattle.dump_declare.specs.Declare.{closes}
use borrow.Author.Tests.{eq-eqb, ne_eqb}
use Rattle.dump_declare.proofs.commands.close_scope.Goals as goal

pub returns-then-h-eq0 : goal.returns-then-h-eq0
unfolding closes
returns-then-h-eq0 c = simp (c.at_place.ensures, eq-eqb _ _ c.if-h-eq0.true)

pub returns : goal.returns
unfolding closes
returns c = simp (c.at_command.ensures, ne_eqb _ _ c.if-h-eq0.false)
