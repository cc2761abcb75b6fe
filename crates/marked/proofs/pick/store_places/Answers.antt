-- `marked::pick::store_places` meets its contract: each turn stores the place of the highest bit and takes the bit away. Assumes nothing.
use Prim.Native.Nat.{ℕ, ◌+◌, ◌-◌, ◌<◌}
use mathlib.Core.Path.{◌≡◌}
use native.Mathlib.Numerals.{add-one}
use native.Mathlib.Omega.{arith}
use lib.Pow.{pow_pos}
use Rattle.bits.proofs.Bits.{shifted_one}
use Rattle.listed.proofs.Highest.{highest}
use Rattle.marked.proofs.Places.{storing-none, storing-all, top, top-low, storing-room, storing-more}
use Rattle.marked.proofs.pick.store_places.Goals as goal

pub loop-rest-init : goal.loop-rest-init
loop-rest-init c =
    let a = c.args in storing-none a.width a.first a.marks a.picked.now a.at c.requires.4 c.requires.1

-- a word that is not 0 has a highest bit, which is one of the width
some : (rest : ℕ) → (rest ≡ 0 → ⊥) → 0 < rest
some rest h = omega arith

pub overflow_sub-j : goal.overflow_sub-j
overflow_sub-j c = (top c.loop-rest.invariant c.requires.0 (some _ c.loop-rest-test.true)).zeros

pub overflow_add-picked : goal.overflow_add-picked
overflow_add-picked c = omega (arith, c.requires.2)

pub overflow_sub-picked : goal.overflow_sub-picked
overflow_sub-picked c = omega (arith, top-low c.loop-rest.invariant c.requires.0 (some _ c.loop-rest-test.true))

pub overflow_sub-picked-in-loop-rest : goal.overflow_sub-picked-in-loop-rest
overflow_sub-picked-in-loop-rest c = omega (arith, top-low c.loop-rest.invariant c.requires.0 (some _ c.loop-rest-test.true))

pub offset_bounds-picked-next : goal.offset_bounds-picked-next
offset_bounds-picked-next c = omega (arith, storing-room c.loop-rest.invariant c.requires.0 (some _ c.loop-rest-test.true) (omega (arith, c.requires.2, c.requires.3)))

pub bounds-picked-next : goal.bounds-picked-next
bounds-picked-next c = storing-room c.loop-rest.invariant c.requires.0 (some _ c.loop-rest-test.true) (omega (arith, c.requires.2, c.requires.3))

pub overflow_add-next : goal.overflow_add-next
overflow_add-next c = omega (arith, storing-room c.loop-rest.invariant c.requires.0 (some _ c.loop-rest-test.true) (omega (arith, c.requires.2, c.requires.3)))

pub overflow_sub-rest : goal.overflow_sub-rest
overflow_sub-rest c =
    rw (shifted_one (highest 32 c.loop-rest.rest) 32 (omega arith)) (top c.loop-rest.invariant c.requires.0 (some _ c.loop-rest-test.true)).below

pub loop-rest-smaller : goal.loop-rest-smaller
loop-rest-smaller c =
    let h = highest 32 c.loop-rest.rest in
    rw (shifted_one h 32 (omega arith)) (omega (arith, (top c.loop-rest.invariant c.requires.0 (some _ c.loop-rest-test.true)).below, pow_pos h))

pub loop-rest-preserved : goal.loop-rest-preserved
loop-rest-preserved c =
    let at = c.loop-rest in
    let h = highest 32 at.rest in
    rw (shifted_one h 32 (omega arith), add-one at.next)
    (storing-more at.invariant c.requires.0 (some _ c.loop-rest-test.true) (storing-room c.loop-rest.invariant c.requires.0 (some _ c.loop-rest-test.true) (omega (arith, c.requires.2, c.requires.3))) (c.args.first + c.args.width - 1 - h) (omega (arith, top-low c.loop-rest.invariant c.requires.0 (some _ c.loop-rest-test.true))))

pub returns : goal.returns
returns c = storing-all c.loop-rest.invariant c.loop-rest-test.false
