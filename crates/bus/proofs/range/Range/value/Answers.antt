-- `bus::range::Range::value` meets its contract: each direction has a function of its own. Assumes nothing.
use mathlib.Core.Path.{sym, ◌∙◌}
use Rattle.bus.proofs.Ranges.{left-low, right-low, down, up, value-descending, value-ascending}
use Rattle.bus.proofs.range.Range.value.Goals as goal

pub descending-requires : goal.descending-requires
descending-requires c = (down c.args.self _ c.descends.ensures c.if-descends.true, left-low c.args.self c.requires)

pub ascending-requires : goal.ascending-requires
ascending-requires c = (up c.args.self _ c.descends.ensures c.if-descends.false, right-low c.args.self c.requires)

pub returns-then-descends : goal.returns-then-descends
returns-then-descends c =
    let a = c.args in
    c.descending.ensures ∙ sym (value-descending a.self a.wires (down a.self _ c.descends.ensures c.if-descends.true))

pub returns-else-descends : goal.returns-else-descends
returns-else-descends c =
    let a = c.args in
    c.ascending.ensures ∙ sym (value-ascending a.self a.wires (up a.self _ c.descends.ensures c.if-descends.false))
