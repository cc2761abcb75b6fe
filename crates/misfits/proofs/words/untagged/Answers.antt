-- `misfits::words::untagged` meets its contract: the number before the tag is all ones or 0. Assumes nothing.
use Rattle.std.proofs.Common.{arith}
use Rattle.misfits.proofs.Misfits.{untagged-is}
use Rattle.misfits.proofs.words.untagged.Goals as goal

pub returns : goal.returns
returns c =
    untagged-is c.args.word c.args.tag c.args.bits c.wrapping_sub_u64.result c.ranges.word.fits (omega (arith, c.wrapping_sub_u64.type_inv)) c.wrapping_sub_u64.ensures.value
