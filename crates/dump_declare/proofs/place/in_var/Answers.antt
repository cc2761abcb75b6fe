use Rattle.dump_declare.specs.Declare.{in_var}
use borrow.Author.Tests.{eq-eqb, ne_eqb}
use Rattle.dump_declare.proofs.place.in_var.Goals as goal

pub returns-then-h-eq7 : goal.returns-then-h-eq7
unfolding in_var
returns-then-h-eq7 c = simp (c.on_var_type.ensures, eq-eqb _ _ c.if-h-eq7.true)

pub returns-then-h-eq8 : goal.returns-then-h-eq8
unfolding in_var
returns-then-h-eq8 c = simp (c.on_width.ensures, eq-eqb _ _ c.if-h-eq8.true, ne_eqb _ _ c.if-h-eq7.false)

pub returns-then-h-eq9 : goal.returns-then-h-eq9
unfolding in_var
returns-then-h-eq9 c = simp (c.on_var_code.ensures, eq-eqb _ _ c.if-h-eq9.true, ne_eqb _ _ c.if-h-eq8.false, ne_eqb _ _ c.if-h-eq7.false)

pub returns-then-h-eq10 : goal.returns-then-h-eq10
unfolding in_var
returns-then-h-eq10 c = simp (c.on_var_name.ensures, eq-eqb _ _ c.if-h-eq10.true, ne_eqb _ _ c.if-h-eq9.false, ne_eqb _ _ c.if-h-eq8.false, ne_eqb _ _ c.if-h-eq7.false)

pub returns-then-h-eq11 : goal.returns-then-h-eq11
unfolding in_var
returns-then-h-eq11 c = simp (c.on_range_word.ensures, eq-eqb _ _ c.if-h-eq11.true, ne_eqb _ _ c.if-h-eq10.false, ne_eqb _ _ c.if-h-eq9.false, ne_eqb _ _ c.if-h-eq8.false, ne_eqb _ _ c.if-h-eq7.false)

pub returns : goal.returns
unfolding in_var
returns c = simp (ne_eqb _ _ c.if-h-eq11.false, ne_eqb _ _ c.if-h-eq10.false, ne_eqb _ _ c.if-h-eq9.false, ne_eqb _ _ c.if-h-eq8.false, ne_eqb _ _ c.if-h-eq7.false)
