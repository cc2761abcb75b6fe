-- `bus::range::Range::masked_value` meets its contract: each direction has a function of its own. Assumes nothing.
use mathlib.Core.Path.{sym, ◌∙◌}
use Rattle.bus.proofs.Ranges.{right-low, up, value-ascending}
use Rattle.bus.proofs.range.Range.masked_value.Goals as goal

pub masked_ascending-requires : goal.masked_ascending-requires
masked_ascending-requires c = (up c.args.self _ c.descends.ensures c.if-descends.false, right-low c.args.self c.requires)

pub returns-else-descends : goal.returns-else-descends
returns-else-descends c =
    let a = c.args in
    c.masked_ascending.ensures ∙ sym (value-ascending a.self a.wires (up a.self _ c.descends.ensures c.if-descends.false))
