-- `misfits::words::above` meets its contract: what is missing to the limit takes a word above it to the next place. Assumes nothing.
use Rattle.misfits.proofs.Misfits.{above-is}
use Rattle.misfits.proofs.words.above.Goals as goal

pub returns : goal.returns
returns c =
    above-is c.args.word c.args.limit c.args.bits c.wrapping_add_u64.result c.requires.0 c.requires.1
    (rw c.low_ones.ensures at c.wrapping_add_u64.ensures.value)
