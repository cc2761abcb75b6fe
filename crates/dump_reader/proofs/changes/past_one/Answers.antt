use Rattle.dump_reader.proofs.RunLaws as runs
use Rattle.dump_reader.specs.Runs.{class_number}
use mathlib.Core.Path.{◌∙◌, sym, ap}
use Rattle.dump_reader.proofs.changes.past_one.Goals as goal

pub returns-then-is_blank : goal.returns-then-is_blank
returns-then-is_blank c = runs.blank-one _ _ _ _ _ _ _ c.past_blank.ensures c.requires.4 c.if-c-ne0.false c.if-c-ge100.false (sym c.is_blank.ensures ∙ c.if-is_blank.true)

pub past_number-requires : goal.past_number-requires
past_number-requires c = (c.requires.0, c.requires.1, c.requires.2, c.requires.3, (record { inside = c.requires.4; closed = c.if-c-ne0.false; going = c.if-c-ge100.false; full = sym c.is_blank.ensures ∙ c.if-is_blank.false }), runs.as-class _ _ _ _ c.class_of.ensures (ap class_number c.in-Stamp.is))

pub past_vector-requires : goal.past_vector-requires
past_vector-requires c = (c.requires.0, c.requires.1, c.requires.2, c.requires.3, (record { inside = c.requires.4; closed = c.if-c-ne0.false; going = c.if-c-ge100.false; full = sym c.is_blank.ensures ∙ c.if-is_blank.false }), runs.as-class _ _ _ _ c.class_of.ensures (ap class_number c.in-Vector.is))

pub past_text-requires : goal.past_text-requires
past_text-requires c = (c.requires.0, c.requires.1, c.requires.2, c.requires.3, (record { inside = c.requires.4; closed = c.if-c-ne0.false; going = c.if-c-ge100.false; full = sym c.is_blank.ensures ∙ c.if-is_blank.false }), runs.as-class _ _ _ _ c.class_of.ensures (ap class_number c.in-Other.is))
