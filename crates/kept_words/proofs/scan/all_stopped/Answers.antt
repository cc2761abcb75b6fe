-- `kept_words::scan::all_stopped` meets its contract. The loop's invariant: no bits where the words passed are all 2^63, since the difference to another has some.
-- The measure is what is left of them. Assumes nothing.
use Rattle.std.proofs.Common.{◌≡◌, length, get_or, refl, add-one, arith}
use Rattle.bits.specs.Bits.{every}
use Rattle.misfits.proofs.Misfits.{or-zero}
use Rattle.kept_words.proofs.Scans.{difference-zero}
use Rattle.kept_words.proofs.scan.all_stopped.Goals as goal

pub loop-word-init : goal.loop-word-init
unfolding every
loop-word-init c = refl

pub loop-word-preserved : goal.loop-word-preserved
unfolding every
loop-word-preserved c =
    let at = c.loop-word in
    let away = c.wrapping_sub_u64-bits in
    let one = difference-zero (get_or c.args.block.now at.word-index 0) away.result (omega (arith, away.type_inv)) away.ensures.value in
    rw (add-one at.word-index, or-zero at.bits away.result, at.invariant, one) refl

pub returns : goal.returns
returns c =
    let at = c.loop-word in
    let all : at.word-index ≡ length c.args.block.now = omega arith in
    rw all at at.invariant
