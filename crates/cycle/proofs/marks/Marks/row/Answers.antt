-- `cycle::marks::Marks::row` meets its contract: each mark is 0 or 1, so the sum fits, and it is the definition's. Assumes nothing.
use Rattle.rules.specs.Rules.{row_of}
use Rattle.cycle.proofs.marks.Marks.row.Goals as goal

pub returns : goal.returns
unfolding row_of
returns c =
    rw
    (c.to_bit-6.ensures.value, c.to_bit-5.ensures.value, c.to_bit-4.ensures.value, c.to_bit-3.ensures.value, c.to_bit-2.ensures.value, c.to_bit.ensures.value)
