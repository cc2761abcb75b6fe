-- `expected::wires::expected_wires` meets its contract: a value is compared from either end. Assumes nothing.
use Prim.Native.Nat.{ℕ, suc, ◌-◌, ◌<◌, zero-le}
use mathlib.Core.Path.{◌≡◌, refl, sym, ◌∙◌}
use native.Mathlib.Omega.{arith}
use lib.Dec.{lit<}
use lib.Pow.{pow_pos}
use Rattle.bits.specs.Bits.{bit, number}
use Rattle.bits.proofs.Bits.{number_lt, number-none, bit_past}
use Rattle.bus.specs.Range.{width}
use Rattle.bus.specs.declared.range.Range.{Range}
use Rattle.bus.proofs.Ranges.{down, up, width-le, ascends-width, turned-within, turned-width, turned-compared}
use Rattle.rules.proofs.Good.{p-within, value_low}
use Rattle.expected.proofs.wires.expected_wires.Goals as goal

-- all bits of a value in the other order
all-bits : (w n v : ℕ) → n ≡ w → 1 < w → number (suc (n - 1 - 0)) (λ k. bit v (n - 1 - k)) ≡ number w (λ k. bit v (w - 1 - k))
all-bits w n v e l = let many : suc (w - 1 - 0) ≡ w = omega arith in rw (e, many) refl

turned-value : (p : Range) (v w r : ℕ) → p.left < p.right → w ≡ width p → r ≡ number (suc (w - 1 - 0)) (λ k. bit v (w - 1 - k))
    → r ≡ number (width p) (λ k. bit v (width p - 1 - k))
turned-value p v w r l e f = f ∙ all-bits (width p) w v e (ascends-width p l)

pub on_wires-requires : goal.on_wires-requires
on_wires-requires c = (
  p-within c.args.c c.requires,
  down c.args.c.p _ c.descends.ensures c.if-descends.true,
  value_low c.args.c c.requires,
)

pub overflow_sub-width : goal.overflow_sub-width
overflow_sub-width c =
    omega (arith, c.width.ensures, ascends-width c.args.c.p (up c.args.c.p _ c.descends.ensures c.if-descends.false))

pub masked_ascending-requires : goal.masked_ascending-requires
masked_ascending-requires c =
    omega (arith, c.width.ensures, ascends-width c.args.c.p (up c.args.c.p _ c.descends.ensures c.if-descends.false), width-le c.args.c.p (p-within c.args.c c.requires))

pub on_wires-requires-2 : goal.on_wires-requires-2
on_wires-requires-2 c =
    let a = c.args.c in
    let t = c.turned in
    let ascends = up a.p _ c.descends.ensures c.if-descends.false in
    let wide = turned-width a.p t.result t.ensures.0 t.ensures.1 in (
      turned-within a.p t.result t.ensures.0 t.ensures.1 (p-within a c.requires),
      omega (arith, t.ensures, ascends),
      rw (wide, turned-value a.p a.value _ _ ascends c.width.ensures c.masked_ascending.ensures) (number_lt (width a.p) (λ k. bit a.value (width a.p - 1 - k))),
    )

pub returns : goal.returns
returns c =
    let a = c.args.c in
    let t = c.turned in
    let ascends = up a.p _ c.descends.ensures c.if-descends.false in
    record {
      same = λ wires.
          c.on_wires-2.ensures.by_index wires
          ∙ turned-compared a.p t.result t.ensures.0 t.ensures.1 a.value c.masked_ascending.result (value_low a c.requires)
          (turned-value a.p a.value _ _ ascends c.width.ensures c.masked_ascending.ensures) wires;
      none = λ wires.
          c.on_wires-2.ensures.by_index_2 wires
          ∙ turned-compared a.p t.result t.ensures.0 t.ensures.1 0 0 (pow_pos (width a.p))
          (sym (number-none (width a.p) (λ k. bit 0 (width a.p - 1 - k)) (λ k l. bit_past 0 0 (width a.p - 1 - k) (lit< tt) zero-le))) wires;
    }
