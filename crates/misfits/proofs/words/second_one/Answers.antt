-- `misfits::words::second_one` meets its contract: without its lowest set bit a word has one less. Assumes nothing.
use Rattle.std.proofs.Common.{arith}
use Rattle.misfits.proofs.Misfits.{second_is}
use Rattle.misfits.proofs.words.second_one.Goals as goal

pub returns : goal.returns
returns c = second_is c.args.word c.wrapping_sub_u64.result (omega (arith, c.wrapping_sub_u64.type_inv)) c.wrapping_sub_u64.ensures.value
