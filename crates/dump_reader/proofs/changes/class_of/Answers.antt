use Rattle.dump_reader.specs.Runs.{begun_as}
use Rattle.dump_reader.specs.Machine.{begun_change, begun}
use borrow.Author.Tests.{eq-eqb, ne_eqb}
use native.Mathlib.Omega.{arith}
use Rattle.dump_reader.proofs.changes.class_of.Goals as goal

pub returns-then-place-ne20 : goal.returns-then-place-ne20
unfolding begun_as begun
returns-then-place-ne20 c = simp (ne_eqb _ _ c.if-place-ne20.true, ne_eqb c.args.place 8 (λ e. omega (arith, e)), ne_eqb c.args.place 10 (λ e. omega (arith, e)), ne_eqb c.args.place 11 (λ e. omega (arith, e)))

pub returns-then-b-eq35 : goal.returns-then-b-eq35
unfolding begun_as begun begun_change
returns-then-b-eq35 c = simp (eq-eqb _ _ c.if-b-eq35.true, eq-eqb _ _ c.if-place-ne20.false)

pub returns-then-b-eq98 : goal.returns-then-b-eq98
unfolding begun_as begun begun_change
returns-then-b-eq98 c = simp (eq-eqb _ _ c.if-b-eq98.true, ne_eqb _ _ c.if-b-eq35.false, eq-eqb _ _ c.if-place-ne20.false)

pub returns-then-b-eq66 : goal.returns-then-b-eq66
unfolding begun_as begun begun_change
returns-then-b-eq66 c = simp (eq-eqb _ _ c.if-b-eq66.true, ne_eqb _ _ c.if-b-eq98.false, ne_eqb _ _ c.if-b-eq35.false, eq-eqb _ _ c.if-place-ne20.false)

pub returns : goal.returns
unfolding begun_as begun begun_change
returns c = simp (ne_eqb _ _ c.if-b-eq66.false, ne_eqb _ _ c.if-b-eq98.false, ne_eqb _ _ c.if-b-eq35.false, eq-eqb _ _ c.if-place-ne20.false)
