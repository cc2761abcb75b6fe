-- `bits::cut::reversed` meets its contract: each mask has the lower groups of its width, by computation, and the five swaps turn the word round. Assumes
-- nothing.
use mathlib.Core.Path.{refl, ap, ◌∙◌}
use lib.Dec.{lit<, lit≤}
use Rattle.bits.specs.Bits.{number}
use Rattle.bits.specs.Groups.{lower, lower_groups, swapped_groups}
use Rattle.bits.proofs.Groups.{all-swapped}
use Rattle.bits.proofs.cut.reversed.Goals as goal

pub swapped-pairs-requires : goal.swapped-pairs-requires
unfolding lower_groups number lower
swapped-pairs-requires c = (lit< tt, lit≤ tt, refl)

pub swapped-nibbles-requires : goal.swapped-nibbles-requires
unfolding lower_groups number lower
swapped-nibbles-requires c = (lit< tt, lit≤ tt, refl)

pub swapped-bytes-requires : goal.swapped-bytes-requires
unfolding lower_groups number lower
swapped-bytes-requires c = (lit< tt, lit≤ tt, refl)

pub swapped-halves-requires : goal.swapped-halves-requires
unfolding lower_groups number lower
swapped-halves-requires c = (lit< tt, lit≤ tt, refl)

pub swapped-requires : goal.swapped-requires
unfolding lower_groups number lower
swapped-requires c = (lit< tt, lit≤ tt, refl)

pub returns : goal.returns
returns c =
    let halves = c.before in
    let bytes = halves.before in
    let nibbles = bytes.before in
    let pairs = nibbles.before in
    c.swapped.ensures
    ∙ ap (swapped_groups 16)
    (halves.swapped-halves.ensures
    ∙ ap (swapped_groups 8)
    (bytes.swapped-bytes.ensures ∙ ap (swapped_groups 4) (nibbles.swapped-nibbles.ensures ∙ ap (swapped_groups 2) pairs.swapped-pairs.ensures)))
    ∙ all-swapped pairs.args.wires
