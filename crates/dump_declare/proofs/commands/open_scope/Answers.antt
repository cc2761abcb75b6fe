use Rattle.dump_declare.specs.Declare.{opens}
use borrow.Author.Tests.{le-ltb, lt-ltb}
use Rattle.dump_declare.proofs.commands.open_scope.Goals as goal

pub returns-then-h-lt32 : goal.returns-then-h-lt32
unfolding opens
returns-then-h-lt32 c = simp (c.at_command.ensures, lt-ltb _ _ c.if-h-lt32.true)

pub returns : goal.returns
unfolding opens
returns c = simp (c.at_place.ensures, le-ltb _ _ c.if-h-lt32.false)
