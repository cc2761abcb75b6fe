use lib.ListN.{length-set}
use Rattle.dump_values.specs.Values.{connected_entry}
use mathlib.Core.Path.{◌∙◌}
use native.Mathlib.Omega.{arith}
use Rattle.dump_values.proofs.table.connected_entry.Goals as goal

pub bounds-store-i-3 : goal.bounds-store-i-3
bounds-store-i-3 c = simp length-set (omega (arith, c.requires.0, c.requires.1, c.requires.2))

pub shape_of-store : goal.shape_of-store
shape_of-store c = c.put_value.auto.store ∙ simp length-set

pub returns : goal.returns
unfolding connected_entry
returns c = simp (c.put_value.ensures, c.span_with-span.ensures, c.distance_of-place.ensures)
