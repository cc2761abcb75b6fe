use Rattle.dump_values.specs.Values.{good_at, good_entry}
use mathlib.Core.Path.{sym}
use borrow.Author.Tests.{le-ltb, lt-ltb, eq-eqb, ne_eqb}
use Rattle.dump_values.proofs.table.good_entry.Goals as goal

pub returns-then-x-eq0 : goal.returns-then-x-eq0
unfolding good_at good_entry
returns-then-x-eq0 c = simp (eq-eqb _ _ c.if-x-eq0.true)

pub returns-then-i-n : goal.returns-then-i-n
unfolding good_at good_entry
returns-then-i-n c = simp (le-ltb _ _ c.if-i-n.true, sym c.find-i.ensures, ne_eqb _ _ c.if-x-eq0.false)

pub returns-then-store-i-eq2 : goal.returns-then-store-i-eq2
unfolding good_at good_entry
returns-then-store-i-eq2 c = simp (eq-eqb _ _ c.if-store-i-eq2.true, lt-ltb _ _ c.if-i-n.false, sym c.find-i.ensures, ne_eqb _ _ c.if-x-eq0.false)

pub returns : goal.returns
unfolding good_at good_entry
returns c = simp (c.between.ensures, ne_eqb _ _ c.if-store-i-eq2.false, lt-ltb _ _ c.if-i-n.false, sym c.find-i.ensures, ne_eqb _ _ c.if-x-eq0.false)
