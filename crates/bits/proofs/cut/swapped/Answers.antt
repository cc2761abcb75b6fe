-- `bits::cut::swapped` meets its contract, which is the law of one swap. Assumes nothing.
use Rattle.bits.proofs.Groups.{swap_is}
use Rattle.bits.proofs.cut.swapped.Goals as goal

pub returns : goal.returns
returns c = swap_is c.args.width c.requires.0 c.args.wires c.args.mask c.requires.2
