use Rattle.dump_values.specs.Values.{connect_at, connect_entry}
use mathlib.Core.Path.{sym}
use borrow.Author.Tests.{le-ltb, lt-ltb, eq-eqb, ne_eqb}
use Rattle.dump_values.proofs.table.connect_entry.Goals as goal

pub returns-then-x-eq0 : goal.returns-then-x-eq0
unfolding connect_at connect_entry
returns-then-x-eq0 c = simp (eq-eqb _ _ c.if-x-eq0.true)

pub returns-then-i-n : goal.returns-then-i-n
unfolding connect_at connect_entry
returns-then-i-n c = simp (le-ltb _ _ c.if-i-n.true, sym c.find-i.ensures, ne_eqb _ _ c.if-x-eq0.false)

pub returns : goal.returns
unfolding connect_at connect_entry
returns c = simp (c.connected_entry.ensures, lt-ltb _ _ c.if-i-n.false, sym c.find-i.ensures, ne_eqb _ _ c.if-x-eq0.false)
