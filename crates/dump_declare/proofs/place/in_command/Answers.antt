use Rattle.dump_declare.specs.Declare.{in_command}
use borrow.Author.Tests.{eq-eqb, ne_eqb}
use Rattle.dump_declare.proofs.place.in_command.Goals as goal

pub returns-then-h-eq0 : goal.returns-then-h-eq0
unfolding in_command
returns-then-h-eq0 c = simp (c.on_command.ensures, eq-eqb _ _ c.if-h-eq0.true)

pub returns-then-h-eq1 : goal.returns-then-h-eq1
unfolding in_command
returns-then-h-eq1 c = simp (c.on_comment.ensures, eq-eqb _ _ c.if-h-eq1.true, ne_eqb _ _ c.if-h-eq0.false)

pub returns-then-h-eq2 : goal.returns-then-h-eq2
unfolding in_command
returns-then-h-eq2 c = simp (c.on_scale.ensures, eq-eqb _ _ c.if-h-eq2.true, ne_eqb _ _ c.if-h-eq1.false, ne_eqb _ _ c.if-h-eq0.false)

pub returns-then-h-eq3 : goal.returns-then-h-eq3
unfolding in_command
returns-then-h-eq3 c = simp (c.on_unit.ensures, eq-eqb _ _ c.if-h-eq3.true, ne_eqb _ _ c.if-h-eq2.false, ne_eqb _ _ c.if-h-eq1.false, ne_eqb _ _ c.if-h-eq0.false)

pub returns-then-h-eq4 : goal.returns-then-h-eq4
unfolding in_command
returns-then-h-eq4 c = simp (c.on_command_end.ensures, eq-eqb _ _ c.if-h-eq4.true, ne_eqb _ _ c.if-h-eq3.false, ne_eqb _ _ c.if-h-eq2.false, ne_eqb _ _ c.if-h-eq1.false, ne_eqb _ _ c.if-h-eq0.false)

pub returns-then-h-eq5 : goal.returns-then-h-eq5
unfolding in_command
returns-then-h-eq5 c = simp (c.on_scope_type.ensures, eq-eqb _ _ c.if-h-eq5.true, ne_eqb _ _ c.if-h-eq4.false, ne_eqb _ _ c.if-h-eq3.false, ne_eqb _ _ c.if-h-eq2.false, ne_eqb _ _ c.if-h-eq1.false, ne_eqb _ _ c.if-h-eq0.false)

pub returns-then-h-eq6 : goal.returns-then-h-eq6
unfolding in_command
returns-then-h-eq6 c = simp (c.on_scope_name.ensures, eq-eqb _ _ c.if-h-eq6.true, ne_eqb _ _ c.if-h-eq5.false, ne_eqb _ _ c.if-h-eq4.false, ne_eqb _ _ c.if-h-eq3.false, ne_eqb _ _ c.if-h-eq2.false, ne_eqb _ _ c.if-h-eq1.false, ne_eqb _ _ c.if-h-eq0.false)

pub returns : goal.returns
unfolding in_command
returns c = simp (ne_eqb _ _ c.if-h-eq6.false, ne_eqb _ _ c.if-h-eq5.false, ne_eqb _ _ c.if-h-eq4.false, ne_eqb _ _ c.if-h-eq3.false, ne_eqb _ _ c.if-h-eq2.false, ne_eqb _ _ c.if-h-eq1.false, ne_eqb _ _ c.if-h-eq0.false)
