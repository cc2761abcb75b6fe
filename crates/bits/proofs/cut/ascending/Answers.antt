-- `bits::cut::ascending` meets its contract: the range is a descending one of the wires in the other order. Assumes nothing.
use mathlib.Core.Path.{◌∙◌}
use Rattle.bits.proofs.Turned.{turned-cut}
use Rattle.bits.proofs.cut.ascending.Goals as goal

pub returns : goal.returns
returns c =
    let s = c.before in
    let a = s.args in
    c.descending.ensures ∙ turned-cut a.left a.right a.wires c.reversed.result s.requires.0 s.requires.1 c.reversed.ensures
