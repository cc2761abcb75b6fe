-- `waves_lines::cycle_lines::row_before` meets its contract. Assumes nothing.
use borrow.Author.Tests.{eq-eqb, ne_eqb}
use Rattle.waves_lines.specs.Lines.{row_before}
use Rattle.waves_lines.proofs.cycle_lines.row_before.Goals as goal

pub returns-then-t-eq0 : goal.returns-then-t-eq0
unfolding row_before
returns-then-t-eq0 c = rw (eq-eqb c.args.t 0 c.if-t-eq0.true)

pub returns : goal.returns
unfolding row_before
returns c = rw (ne_eqb c.args.t 0 c.if-t-eq0.false)
