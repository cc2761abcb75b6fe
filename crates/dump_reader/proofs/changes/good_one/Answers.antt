use Rattle.dump_reader.proofs.RunLaws as runs
use Rattle.dump_reader.specs.Runs.{class_number}
use mathlib.Core.Path.{◌∙◌, sym, ap}
use native.Mathlib.Omega.{arith}
use Rattle.dump_reader.proofs.changes.good_one.Goals as goal

pub returns-then-is_blank : goal.returns-then-is_blank
returns-then-is_blank c = runs.for-digits _ _ _ _ _ _ _ (runs.blank-all _ _ _ _ _ c.past_blank.ensures c.requires.3 c.if-c-ne0.false (omega (arith, c.if-c-ne20.false)) (sym c.is_blank.ensures ∙ c.if-is_blank.true))

pub vector_one-requires : goal.vector_one-requires
vector_one-requires c = (c.requires.0, c.requires.1, c.requires.2, (record { inside = c.requires.3; closed = c.if-c-ne0.false; going = omega (arith, c.if-c-ne20.false); full = sym c.is_blank.ensures ∙ c.if-is_blank.false }), runs.at-change _ _ _ _ c.if-c-ne20.false c.class_of.ensures (ap class_number c.in-Vector.is), c.if-c-ne20.false)

pub scalar_one-requires : goal.scalar_one-requires
scalar_one-requires c = (c.requires.0, c.requires.1, (record { inside = c.requires.3; closed = c.if-c-ne0.false; going = omega (arith, c.if-c-ne20.false); full = sym c.is_blank.ensures ∙ c.if-is_blank.false }), runs.at-change _ _ _ _ c.if-c-ne20.false c.class_of.ensures (ap class_number c.in-Other.is), c.if-c-ne20.false)

pub returns-in-Other : goal.returns-in-Other
returns-in-Other c = runs.for-digits _ _ _ _ _ _ _ c.scalar_one.ensures
