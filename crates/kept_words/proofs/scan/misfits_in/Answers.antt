-- `kept_words::scan::misfits_in` meets its contract. The loop's invariant: no bits where each of the words passed is possible for a checker that goes on. The
-- measure is what is left of them. Assumes nothing.
use Rattle.std.proofs.Common.{◌≡◌, length, refl, add-one, arith}
use Rattle.bits.specs.Bits.{every}
use Rattle.misfits.proofs.Misfits.{or-zero}
use Rattle.kept_words.proofs.scan.misfits_in.Goals as goal

pub loop-word-init : goal.loop-word-init
unfolding every
loop-word-init c = refl

pub misfit-bits-requires : goal.misfit-bits-requires
misfit-bits-requires c = c.requires

pub loop-word-preserved : goal.loop-word-preserved
unfolding every
loop-word-preserved c =
    let at = c.loop-word in
    rw (add-one at.word-index, or-zero at.bits c.misfit-bits.result, at.invariant, c.misfit-bits.ensures) refl

pub returns : goal.returns
returns c =
    let at = c.loop-word in
    let all : at.word-index ≡ length c.args.block.now = omega arith in
    rw all at at.invariant
