-- `bus::range::Range::descending_value` meets its contract: the wires stand in the value's order. Assumes nothing.
use mathlib.Core.Path.{sym, ◌∙◌}
use Rattle.bus.proofs.Ranges.{left-low, value-descending}
use Rattle.bus.proofs.range.Range.descending_value.Goals as goal

pub masked-requires : goal.masked-requires
masked-requires c = let s = c.before in (s.requires.1, left-low s.args.self s.requires.0)

pub returns : goal.returns
returns c = let s = c.before in c.masked.ensures ∙ sym (value-descending s.args.self s.args.wires s.requires.1)
