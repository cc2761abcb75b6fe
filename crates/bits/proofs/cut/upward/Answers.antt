-- `bits::cut::upward` meets its contract. Assumes nothing.
use Rattle.bits.proofs.Bits.{bit-shr}
use Rattle.bits.proofs.cut.upward.Goals as goal

pub returns : goal.returns
returns c = λ k. bit-shr c.args.wires c.args.right k
