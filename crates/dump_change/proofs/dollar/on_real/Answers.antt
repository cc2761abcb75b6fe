use Rattle.dump_change.specs.Change.{on_real}
use borrow.Author.Tests.{le-ltb, lt-ltb}
use Rattle.dump_change.proofs.dollar.on_real.Goals as goal

pub returns-then-t-lt2 : goal.returns-then-t-lt2
unfolding on_real
returns-then-t-lt2 c = simp (c.wave_at.ensures, lt-ltb _ _ c.if-t-lt2.true)

pub returns : goal.returns
unfolding on_real
returns c = simp (c.wave_at-2.ensures, le-ltb _ _ c.if-t-lt2.false)
