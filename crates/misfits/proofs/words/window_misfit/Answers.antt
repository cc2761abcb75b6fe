-- `misfits::words::window_misfit` meets its contract: at most 2^48 and the highest reference with 65,535 cycles left, below 2^48 a word without a reference,
-- and the cycles left of each. Assumes nothing.
use Rattle.std.proofs.Common.{◌≡◌, ℕ, ◌+◌, ◌-◌, ◌*◌, ◌^◌, eqb, ◌∙◌, arith, pow_pos, pow-add}
use Rattle.bus.specs.Range.{width}
use Rattle.bus.proofs.Ranges.{width-le}
use Rattle.rules.specs.Config.Family.{stability}
use Rattle.rules.specs.Possible.{possible_of, without_reference, with_a_reference}
use Rattle.rules.proofs.Good.{p-within, possible-are, stability-config}
use Rattle.misfits.proofs.Misfits.{or-zero, window-is, width_room}
use Rattle.misfits.proofs.words.window_misfit.Goals as goal

-- the highest reference, with as many cycles left as 16 bits hold
highest : (k w o : ℕ) → k ≡ w → o ≡ 2 ^ (k + 16) - 1 → o ≡ 2 ^ w * 2 ^ 16 - 1
highest k w o e h = rw (e, pow-add 2 w 16) at h

pub overflow_add-width : goal.overflow_add-width
overflow_add-width c =
    omega (arith, c.width.ensures, width-le c.args.c.p (p-within c.args.c c.requires.0))

pub low_ones-limit-requires : goal.low_ones-limit-requires
low_ones-limit-requires c =
    omega (arith, c.width.ensures, width-le c.args.c.p (p-within c.args.c c.requires.0))

pub overflow_add-limit : goal.overflow_add-limit
overflow_add-limit c = omega (arith, highest _ _ _ c.width.ensures c.low_ones-limit.ensures, width_room c.args.c c.requires.0)

pub above-requires : goal.above-requires
above-requires c = omega (arith, highest _ _ _ c.width.ensures c.low_ones-limit.ensures, width_room c.args.c c.requires.0, pow_pos (width c.args.c.p))

pub cycles_misfit-requires : goal.cycles_misfit-requires
cycles_misfit-requires c =
    let k = stability-config c.args.c c.requires.0 c.requires.1 in omega (arith, k)

pub returns : goal.returns
unfolding possible_of without_reference with_a_reference
returns c =
    let a = c.args in
    let k = stability-config a.c c.requires.0 c.requires.1 in
    rw (or-zero _ c.cycles_misfit.result, or-zero c.above.result c.untagged.result, c.above.ensures, highest _ _ _ c.width.ensures c.low_ones-limit.ensures)
    (window-is a.word (2 ^ width a.c.p) a.c.n a.c.min (pow_pos (width a.c.p)) (width_room a.c c.requires.0) (omega (arith, k)) (omega (arith, k))
    (eqb c.untagged.result 0) (eqb c.cycles_misfit.result 0) c.untagged.ensures c.cycles_misfit.ensures
    ∙ possible-are a.c a.word stability c.requires.1)
