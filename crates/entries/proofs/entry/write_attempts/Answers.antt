-- `entries::entry::write_attempts` meets its contract: each turn writes the entry of the highest bit and takes the bit away. Assumes nothing.
use Prim.Native.Nat.{ℕ, ◌<◌}
use mathlib.Core.Path.{◌≡◌}
use native.Mathlib.Omega.{arith}
use lib.Pow.{pow_pos}
use Rattle.bits.proofs.Bits.{shifted_one}
use Rattle.listed.proofs.Highest.{highest}
use Rattle.entries.proofs.Stored.{stored-length}
use Rattle.entries.proofs.Writing.{writing-none, writing-all, top, top-young, room, writing_more}
use Rattle.entries.proofs.entry.write_attempts.Goals as goal

pub loop-rest-init : goal.loop-rest-init
loop-rest-init c =
    let a = c.args in
    writing-none a.lost a.t a.list.now a.at c.requires.1 c.ranges.lost.fits

-- a word that is not 0 has a highest bit, and its attempt began after cycle 0
some : (rest : ℕ) → (rest ≡ 0 → ⊥) → 0 < rest
some rest h = omega arith

pub overflow_sub-j : goal.overflow_sub-j
overflow_sub-j c = (top c.loop-rest.invariant (some _ c.loop-rest-test.true)).zeros

pub overflow_sub-t : goal.overflow_sub-t
overflow_sub-t c = omega (arith, top-young c.loop-rest.invariant (some _ c.loop-rest-test.true))

pub overflow_sub-t-in-loop-rest : goal.overflow_sub-t-in-loop-rest
overflow_sub-t-in-loop-rest c = omega (arith, top-young c.loop-rest.invariant (some _ c.loop-rest-test.true))

pub write_entry-next-requires : goal.write_entry-next-requires
write_entry-next-requires c =
    (c.requires.0, omega (arith, top-young c.loop-rest.invariant (some _ c.loop-rest-test.true)), room c.loop-rest.invariant (some _ c.loop-rest-test.true) c.requires.2)

pub overflow_sub-rest : goal.overflow_sub-rest
overflow_sub-rest c =
    rw (shifted_one (highest 64 c.loop-rest.rest) 64 (omega arith)) (top c.loop-rest.invariant (some _ c.loop-rest-test.true)).below

pub loop-rest-smaller : goal.loop-rest-smaller
loop-rest-smaller c =
    let h = highest 64 c.loop-rest.rest in
    rw (shifted_one h 64 (omega arith)) (omega (arith, (top c.loop-rest.invariant (some _ c.loop-rest-test.true)).below, pow_pos h))

pub loop-rest-preserved : goal.loop-rest-preserved
loop-rest-preserved c =
    let e = c.write_entry-next in
    rw (shifted_one (highest 64 c.loop-rest.rest) 64 (omega arith)) (writing_more c.loop-rest.invariant (some _ c.loop-rest-test.true) e.ensures)

pub shape_of-list : goal.shape_of-list
shape_of-list c = stored-length c.loop-rest.invariant.stored

pub returns : goal.returns
returns c = writing-all c.loop-rest.invariant c.loop-rest-test.false
