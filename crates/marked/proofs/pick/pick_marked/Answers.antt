-- `marked::pick::pick_marked` meets its contract. The loop's invariant: the rows before `first` are picked, and where rows are left, those passed are whole words
-- of 32. Assumes nothing.
use Prim.Native.Nat.{ℕ, ◌+◌, ◌-◌, ◌≤◌, ◌<◌, min}
use mathlib.Core.Path.{◌≡◌}
use native.Mathlib.Omega.{arith}
use Rattle.marked.specs.Picks.{marked}
use Rattle.marked.proofs.Places.{first_small, picking-none, picking-more}
use Rattle.marked.proofs.pick.pick_marked.Goals as goal

-- the rows of the word
abbrev Width : ℕ → ℕ → ℕ → Type 0
Width first cycles w = (0 < w) × (w ≤ 32) × (first + w ≤ cycles) × (first + w < cycles → w ≡ 32)

width-is : (first cycles w : ℕ) → first < cycles → w ≡ min (cycles - first) 32 → Width first cycles w
width-is first cycles w h e = (omega arith, omega arith, omega arith, λ g. omega arith)

-- a turn starts at a row that is left, and the next one starts behind the rows of the word
started : (first cycles : ℕ) → first < cycles → min first cycles ≡ first
started first cycles h = omega arith

ended : (first cycles w : ℕ) → first < cycles → w ≡ min (cycles - first) 32 → min (first + 32) cycles ≡ first + w
ended first cycles w h e = omega arith

none : (cycles : ℕ) → min 0 cycles ≡ 0
none cycles = omega arith

pub loop-first-init : goal.loop-first-init
loop-first-init c = rw (none c.args.cycles) (picking-none c.args.rows.now c.args.cycles c.args.picked.now c.requires.1)

pub store_places-next-requires : goal.store_places-next-requires
store_places-next-requires c =
    let a = c.args in
    let at = c.loop-first in
    let marks = c.marks_of in
    let d = rw (started at.first a.cycles c.loop-first-test.true) at at.invariant in
    let h : Width at.first a.cycles c.min-width.result = width-is _ _ _ c.loop-first-test.true c.min-width.ensures in (
      h.1,
      first_small c.min-width.result h.1 (λ s. marked a.rows.now (at.first + s)) marks.result marks.ensures,
      omega (arith, h.2, c.requires.0),
      d.picks.few,
      d.picks.long,
    )

pub loop-first-preserved : goal.loop-first-preserved
loop-first-preserved c =
    let a = c.args in
    let at = c.loop-first in
    let marks = c.marks_of in
    let d = rw (started at.first a.cycles c.loop-first-test.true) at at.invariant in
    let h : Width at.first a.cycles c.min-width.result = width-is _ _ _ c.loop-first-test.true c.min-width.ensures in
    rw (ended at.first a.cycles c.min-width.result c.loop-first-test.true c.min-width.ensures)
    (picking-more a.rows.now d c.min-width.result marks.result h.1 marks.ensures h.2 h.3 c.loop-first-test.true c.store_places-next.ensures)

pub returns-2 : goal.returns-2
returns-2 c =
    let a = c.args in
    let at = c.loop-first in
    let marks = c.marks_of in
    let d = rw (started at.first a.cycles c.loop-first-test.true) at at.invariant in
    let h : Width at.first a.cycles c.min-width.result = width-is _ _ _ c.loop-first-test.true c.min-width.ensures in
    let all : at.first + c.min-width.result ≡ a.cycles = grind (arith, c.requires.0, c.loop-first-test.true, c.min-width.ensures) in
    let on = picking-more a.rows.now d c.min-width.result marks.result h.1 marks.ensures h.2 h.3 c.loop-first-test.true c.store_places-next.ensures in
    rw all at on.picks
