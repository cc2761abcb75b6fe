-- `bus::range::Range::has_one` meets its contract: the same wires from the other end are 0 together. Assumes nothing.
use Prim.Native.Nat.{ℕ}
use mathlib.Core.Path.{sym, ap, ◌∙◌}
use mathlib.Core.Bool.{not}
use native.Mathlib.Nat.{le_of_lt}
use lib.Dec.{eqb}
use Rattle.bus.proofs.Ranges.{right-low, up, value-ascending, none-either-way}
use Rattle.bus.proofs.range.Range.has_one.Goals as goal

pub masked-requires : goal.masked-requires
masked-requires c = (le_of_lt (up c.args.self _ c.descends.ensures c.if-descends.false), right-low c.args.self c.requires)

pub returns-else-descends : goal.returns-else-descends
returns-else-descends c =
    let a = c.args in
    let ascends = up a.self _ c.descends.ensures c.if-descends.false in
    ap (λ (x : ℕ). not (eqb x 0)) c.masked.ensures ∙ none-either-way a.self.left a.self.right a.wires ascends
    ∙ ap (λ (x : ℕ). not (eqb x 0)) (sym (value-ascending a.self a.wires ascends))
