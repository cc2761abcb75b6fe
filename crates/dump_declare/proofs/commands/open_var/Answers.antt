use Rattle.dump_declare.specs.Declare.{declares}
use borrow.Author.Tests.{le-ltb, lt-ltb}
use Rattle.dump_declare.proofs.commands.open_var.Goals as goal

pub returns-then-h-lt1024 : goal.returns-then-h-lt1024
unfolding declares
returns-then-h-lt1024 c = simp (c.at_command.ensures, lt-ltb _ _ c.if-h-lt1024.true)

pub returns : goal.returns
unfolding declares
returns c = simp (c.at_place.ensures, le-ltb _ _ c.if-h-lt1024.false)
