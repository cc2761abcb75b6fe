-- `cycle_entries::kinds::write_entries` meets its contract: each family has entries of its own, for which there is room. Assumes nothing.
use mathlib.Core.Path.{sym, ap}
use native.Mathlib.Omega.{arith}
use lib.ListN.{length}
use Rattle.rules.specs.Step.{left_in}
use Rattle.rules.proofs.Good.{kind-low}
use Rattle.cycle_entries.proofs.StepEntries.{lost-young, attempts-are, window-start, window-is, stored-before, transition-is, trigger-low, value_low, value_is, stability-low, stability-is}
use Rattle.cycle_entries.proofs.kinds.write_entries.Goals as goal

pub family-requires : goal.family-requires
family-requires c = kind-low c.args.c c.requires.0.good

-- ---- kinds 0 to 2
pub write_attempts-requires : goal.write_attempts-requires
write_attempts-requires c =
    let a = c.args in
    let fam = sym c.in-Sequence.ensures in
    let lost = c.lost_attempts in
    let e =
    attempts-are a.c a.word a.frame a.row a.t c.requires.0 fam lost.result lost.ensures
    c.requires.1 in (
      c.requires.0.low,
      lost-young a.c a.word a.frame a.row a.t c.requires.0 fam lost.result lost.ensures,
      omega (arith, c.requires.2, ap length e),
    )

pub returns-in-Sequence : goal.returns-in-Sequence
returns-in-Sequence c =
    let a = c.args in
    let fam = sym c.in-Sequence.ensures in
    let lost = c.lost_attempts in
    rw
    (attempts-are a.c a.word a.frame a.row a.t c.requires.0 fam lost.result lost.ensures
    c.requires.1)
    c.write_attempts.ensures

-- ---- kinds 3 to 5
pub overflow_add-t : goal.overflow_add-t
overflow_add-t c =
    let a = c.args in
    let fam = sym c.in-Time.ensures in
    omega (arith, c.requires.0.low, window-start a.c a.word a.frame a.row a.t c.requires.0 fam c.requires.1)

pub overflow_sub-t : goal.overflow_sub-t
overflow_sub-t c =
    let a = c.args in
    let fam = sym c.in-Time.ensures in
    omega (arith, window-start a.c a.word a.frame a.row a.t c.requires.0 fam c.requires.1)

pub overflow_sub-t-in-Time : goal.overflow_sub-t-in-Time
overflow_sub-t-in-Time c =
    let a = c.args in
    let fam = sym c.in-Time.ensures in
    omega (arith, window-start a.c a.word a.frame a.row a.t c.requires.0 fam c.requires.1)

pub write_window-requires : goal.write_window-requires
write_window-requires c =
    let a = c.args in
    let fam = sym c.in-Time.ensures in
    let h = window-start a.c a.word a.frame a.row a.t c.requires.0 fam c.requires.1 in
    let e = window-is a.c a.word a.frame a.row a.t c.requires.0 fam c.requires.1 in
    (c.requires.1, omega arith, c.requires.0.low, omega (arith, h), omega (arith, c.requires.2, ap length e))

pub returns-in-Time : goal.returns-in-Time
returns-in-Time c =
    let a = c.args in
    let fam = sym c.in-Time.ensures in
    rw
    (window-is a.c a.word a.frame a.row a.t c.requires.0 fam c.requires.1)
    c.write_window.ensures

-- ---- kind 6
pub overflow_sub-t-in-Transition : goal.overflow_sub-t-in-Transition
overflow_sub-t-in-Transition c =
    let a = c.args in
    stored-before a.c a.word a.frame a.row a.t c.requires.0 (sym c.in-Transition.ensures)
    c.requires.1

pub write_entry-requires : goal.write_entry-requires
write_entry-requires c =
    let a = c.args in
    let fam = sym c.in-Transition.ensures in
    let h = stored-before a.c a.word a.frame a.row a.t c.requires.0 fam c.requires.1 in
    let e = transition-is a.c a.word a.frame a.row a.t c.requires.0 fam c.requires.1 in
    (c.requires.0.low, omega (arith, h), omega (arith, c.requires.2, ap length e))

pub returns-in-Transition : goal.returns-in-Transition
returns-in-Transition c =
    let a = c.args in
    let fam = sym c.in-Transition.ensures in
    rw (transition-is a.c a.word a.frame a.row a.t c.requires.0 fam c.requires.1)
    c.write_entry.ensures

-- ---- kind 7
pub trigger_cycle-start-requires : goal.trigger_cycle-start-requires
trigger_cycle-start-requires c =
    let a = c.args in
    let fam = sym c.in-Value.ensures in
    let h = value_low a.c a.word a.frame a.row a.t c.requires.0 fam in
    (c.requires.0.low, h.0, omega (arith, h), h.2)

pub write_entry-requires-in-Value : goal.write_entry-requires-in-Value
write_entry-requires-in-Value c =
    let a = c.args in
    let fam = sym c.in-Value.ensures in
    let h = value_low a.c a.word a.frame a.row a.t c.requires.0 fam in
    let e = value_is a.c a.word a.frame a.row a.t c.requires.0 fam c.requires.1 in
    let start = c.trigger_cycle-start.ensures in
    (c.requires.0.low, rw start (trigger-low a.c a.word a.frame a.row a.t c.requires.0 a.word h.0 h.2), omega (arith, c.requires.2, ap length e))

pub returns-in-Value : goal.returns-in-Value
returns-in-Value c =
    let a = c.args in
    let fam = sym c.in-Value.ensures in
    rw (value_is a.c a.word a.frame a.row a.t c.requires.0 fam c.requires.1, ← c.trigger_cycle-start.ensures) c.write_entry-in-Value.ensures

-- ---- kind 8
pub trigger_cycle-start-requires-in-Stability : goal.trigger_cycle-start-requires-in-Stability
trigger_cycle-start-requires-in-Stability c =
    let a = c.args in
    let fam = sym c.in-Stability.ensures in
    let h = stability-low a.c a.word a.frame a.row a.t c.requires.0 fam in
    (c.requires.0.low, h.0, omega (arith, h), h.2)

pub write_entry-requires-in-Stability : goal.write_entry-requires-in-Stability
write_entry-requires-in-Stability c =
    let a = c.args in
    let fam = sym c.in-Stability.ensures in
    let h = stability-low a.c a.word a.frame a.row a.t c.requires.0 fam in
    let e = stability-is a.c a.word a.frame a.row a.t c.requires.0 fam c.requires.1 in
    let start = c.trigger_cycle-start-in-Stability.ensures in
    (c.requires.0.low, rw start (trigger-low a.c a.word a.frame a.row a.t c.requires.0 (left_in a.word) h.0 h.2), omega (arith, c.requires.2, ap length e))

pub returns-in-Stability : goal.returns-in-Stability
returns-in-Stability c =
    let a = c.args in
    let fam = sym c.in-Stability.ensures in
    rw (stability-is a.c a.word a.frame a.row a.t c.requires.0 fam c.requires.1, ← c.trigger_cycle-start-in-Stability.ensures) c.write_entry-in-Stability.ensures
