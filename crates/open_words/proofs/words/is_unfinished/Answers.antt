-- `open_words::words::is_unfinished` meets its contract: each arm tests what the kind's family asks of a word. Assumes nothing.
use Prim.Native.Nat.{◌-◌}
use mathlib.Core.Path.{sym}
use mathlib.Core.Logic.{inl, inr}
use native.Mathlib.Omega.{arith}
use Rattle.bits.proofs.Bits.{le-ones-lt}
use Rattle.bus.proofs.Ranges.{width-le}
use Rattle.rules.specs.Config.Family.{sequence, time, transition, value, stability}
use Rattle.rules.specs.Possible.{possible_of}
use Rattle.rules.proofs.Good.{kind-low, sequence-config, p-within, possible-are}
use Rattle.open_words.proofs.words.is_unfinished.Goals as goal

pub family-requires : goal.family-requires
family-requires c = kind-low c.args.c c.requires

pub overflow_sub-c : goal.overflow_sub-c
overflow_sub-c c = omega (arith, sequence-config c.args.c c.requires (sym (rw c.in-Sequence.is at c.family.ensures)))

pub low_ones-requires : goal.low_ones-requires
low_ones-requires c = omega (arith, sequence-config c.args.c c.requires (sym (rw c.in-Sequence.is at c.family.ensures)))

pub is_stored-requires : goal.is_stored-requires
is_stored-requires c = omega (arith, c.width.ensures, width-le c.args.c.p (p-within c.args.c c.requires))

pub has_reference-requires : goal.has_reference-requires
has_reference-requires c = (c.requires, sym (rw c.in-Stability.is at c.family.ensures))

pub returns-in-Sequence : goal.returns-in-Sequence
unfolding possible_of
returns-in-Sequence c =
    let a = c.args in
    rw (c.low_ones.ensures, le-ones-lt (a.c.n - 1) a.word) (possible-are a.c a.word sequence (sym (rw c.in-Sequence.is at c.family.ensures)))

pub returns-in-Time : goal.returns-in-Time
unfolding possible_of
returns-in-Time c =
    let a = c.args in
    elim c.in-Time.is
    [ inl is ↦ possible-are a.c a.word time (sym (rw is at c.family.ensures)) | inr is ↦ possible-are a.c a.word value (sym (rw is at c.family.ensures)) ]

pub returns-in-Transition : goal.returns-in-Transition
unfolding possible_of
returns-in-Transition c =
    let a = c.args in
    rw (c.is_stored.ensures, c.width.ensures) (possible-are a.c a.word transition (sym (rw c.in-Transition.is at c.family.ensures)))

pub returns-in-Stability : goal.returns-in-Stability
unfolding possible_of
returns-in-Stability c =
    let a = c.args in
    rw (c.has_reference.ensures, c.has_no_reference.ensures) (possible-are a.c a.word stability (sym (rw c.in-Stability.is at c.family.ensures)))
