-- `misfits::words::stored_misfit` meets its contract: at most 2^32 and the highest value, and not below 2^32 but 0. Assumes nothing.
use Rattle.std.proofs.Common.{◌≡◌, ℕ, ◌-◌, ◌^◌, eqb, ◌∙◌, arith, pow_pos}
use Rattle.bus.specs.Range.{width}
use Rattle.bus.proofs.Ranges.{width-le}
use Rattle.rules.specs.Config.Family.{transition}
use Rattle.rules.specs.Possible.{possible_of}
use Rattle.rules.proofs.Good.{p-within, possible-are}
use Rattle.misfits.proofs.Misfits.{or-zero, stored_is, width_room}
use Rattle.misfits.proofs.words.stored_misfit.Goals as goal

-- the highest value of the width
highest : (k w o : ℕ) → k ≡ w → o ≡ 2 ^ k - 1 → o ≡ 2 ^ w - 1
highest k w o e h = rw e at h

pub low_ones-requires : goal.low_ones-requires
low_ones-requires c =
    omega (arith, c.width.ensures, width-le c.args.c.p (p-within c.args.c c.requires.0))

pub overflow_add-low_ones : goal.overflow_add-low_ones
overflow_add-low_ones c = omega (arith, highest _ _ _ c.width.ensures c.low_ones.ensures, width_room c.args.c c.requires.0)

pub above-requires : goal.above-requires
above-requires c =
    omega (arith, highest _ _ _ c.width.ensures c.low_ones.ensures, width_room c.args.c c.requires.0, pow_pos (width c.args.c.p))

pub returns : goal.returns
unfolding possible_of
returns c =
    let w = c.args.word in
    rw (or-zero c.above.result c.untagged.result, c.above.ensures, highest _ _ _ c.width.ensures c.low_ones.ensures)
    (stored_is w (2 ^ width c.args.c.p) (pow_pos (width c.args.c.p)) (eqb c.untagged.result 0) c.untagged.ensures (width_room c.args.c c.requires.0)
    ∙ possible-are c.args.c w transition c.requires.1)
