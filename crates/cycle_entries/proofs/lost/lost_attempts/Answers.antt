-- `cycle_entries::lost::lost_attempts` meets its contract: the attempts are those that missed their event, and of kind 0 the mask leaves the oldest.
-- Assumes nothing.
use Prim.Native.Nat.{◌-◌}
use native.Mathlib.Omega.{arith}
use borrow.Author.Tests.{eq-eqb, ne_eqb}
use Rattle.bits.proofs.Bits.{shifted_one}
use Rattle.sequence.proofs.SequenceCode.{fits}
use Rattle.cycle_entries.proofs.LostWord.{lost-all, lost-oldest}
use Rattle.cycle_entries.proofs.lost.lost_attempts.Goals as goal

pub missed_in_order-requires : goal.missed_in_order-requires
missed_in_order-requires c = (c.requires.0, c.requires.1)

pub overflow_sub-result : goal.overflow_sub-result
overflow_sub-result c = (fits c.args.c c.args.word c.requires).0

pub overflow_shl-result : goal.overflow_shl-result
overflow_shl-result c = omega (arith, fits c.args.c c.args.word c.requires)

pub returns-then-c-eq0 : goal.returns-then-c-eq0
returns-then-c-eq0 c =
    let a = c.args in
    let h = fits a.c a.word c.requires in
    let e = c.missed_in_order in
    rw (shifted_one (a.c.n - 2) 64 (omega arith))
    (lost-oldest a.c a.word a.frame e.result h.0 h.2 e.ensures (eq-eqb a.c.kind 0 c.if-c-eq0.true))

pub returns-else-c-eq0 : goal.returns-else-c-eq0
returns-else-c-eq0 c =
    let a = c.args in
    let h = fits a.c a.word c.requires in
    let e = c.missed_in_order in
    lost-all a.c a.word a.frame e.result h.0 h.2 e.ensures (ne_eqb a.c.kind 0 c.if-c-eq0.false)
