-- `sequence::step::advanced` meets its contract: the mask leaves the n − 1 lowest bits that both words have. Assumes nothing.
use Prim.Native.Nat.{◌+◌, ◌-◌, ◌*◌}
use Rattle.bits.specs.Bits.{to_bit}
use Rattle.bits.proofs.Bits.{and_low}
use Rattle.sequence.proofs.step.advanced.Goals as goal

pub returns : goal.returns
returns c =
    let a = c.args in
    rw c.to_bit.ensures.value
    (and_low (a.word * 2 + to_bit a.start) a.events c.low_ones.result (a.n - 1) c.low_ones.ensures)
