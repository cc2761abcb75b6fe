use Rattle.dump_change.specs.Change.{on_scalar, scalar_change, scalar_store}
use mathlib.Core.Path.{sym}
use borrow.Author.Tests.{le-ltb, lt-ltb, eq-eqb, ne_eqb}
use Rattle.dump_change.proofs.digits.on_scalar.Goals as goal

pub returns-then-t-lt2 : goal.returns-then-t-lt2
unfolding on_scalar scalar_change scalar_store
returns-then-t-lt2 c = (simp (c.wave_at.ensures, lt-ltb _ _ c.if-t-lt2.true), simp (lt-ltb _ _ c.if-t-lt2.true))

pub returns-then-t-gt9 : goal.returns-then-t-gt9
unfolding on_scalar scalar_change scalar_store
returns-then-t-gt9 c = (simp (c.wave_at-then-t-gt9.ensures, lt-ltb _ _ c.if-t-gt9.true, le-ltb _ _ c.if-t-lt2.false), simp (lt-ltb _ _ c.if-t-gt9.true, le-ltb _ _ c.if-t-lt2.false))

pub returns-then-r-ne20 : goal.returns-then-r-ne20
unfolding on_scalar scalar_change scalar_store
returns-then-r-ne20 c = (simp (sym c.scalar_test-r.ensures, sym c.find-i.ensures, sym c.tail_code-x.ensures, le-ltb _ _ c.if-t-gt9.false, le-ltb _ _ c.if-t-lt2.false), simp (ne_eqb _ _ c.if-r-ne20.true, sym c.scalar_test-r.ensures, sym c.find-i.ensures, sym c.tail_code-x.ensures, le-ltb _ _ c.if-t-gt9.false, le-ltb _ _ c.if-t-lt2.false))

pub returns-then-i-n : goal.returns-then-i-n
unfolding on_scalar scalar_change scalar_store
returns-then-i-n c = (simp (sym c.scalar_test-r.ensures, sym c.find-i.ensures, sym c.tail_code-x.ensures, le-ltb _ _ c.if-t-gt9.false, le-ltb _ _ c.if-t-lt2.false), simp (le-ltb _ _ c.if-i-n.true, eq-eqb _ _ c.if-r-ne20.false, sym c.scalar_test-r.ensures, sym c.find-i.ensures, sym c.tail_code-x.ensures, le-ltb _ _ c.if-t-gt9.false, le-ltb _ _ c.if-t-lt2.false))

pub returns : goal.returns
unfolding on_scalar scalar_change scalar_store
returns c = (simp (sym c.scalar_test-r.ensures, sym c.find-i.ensures, sym c.tail_code-x.ensures, le-ltb _ _ c.if-t-gt9.false, le-ltb _ _ c.if-t-lt2.false), simp (c.change_bits.ensures, lt-ltb _ _ c.if-i-n.false, eq-eqb _ _ c.if-r-ne20.false, sym c.scalar_test-r.ensures, sym c.find-i.ensures, sym c.tail_code-x.ensures, le-ltb _ _ c.if-t-gt9.false, le-ltb _ _ c.if-t-lt2.false))
