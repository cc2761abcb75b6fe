-- Laws of declared ranges. Assumes nothing.
use Prim.Native.Nat.{ℕ, suc, ◌+◌, ◌-◌, ◌^◌, ◌≤◌, ◌<◌}
use mathlib.Core.Path.{◌≡◌, refl, sym, ap, ap₂, ◌∙◌}
use mathlib.Core.Bool.{Bool, true, false, not, cond}
use mathlib.Core.Logic.{⊎_elim}
use native.Mathlib.Omega.{arith}
use borrow.Author.Tests.{le-leb, lt-leb, leb-true, leb-false, eq-eqb}
use lib.Dec.{T, eqb, leb, leb→le, le→leb, eqb→eq}
use Rattle.bits.specs.Bits.{bit, some, number}
use Rattle.bus.specs.Range.{width, within, wire_of, value_of}
use Rattle.bus.specs.declared.range.Range.{Range}
use Rattle.bits.proofs.Bits.{number-ext, number_is, number_lt, number-one, number-some, bit-number}
use Rattle.bits.proofs.Tests.{of-true, iff-eq, and_intro, and_left, and_right, either, some-intro, some-elim}

pub left-low : (r : Range) → T (within r) → r.left ≤ 31
unfolding within
left-low r h = leb→le r.left 31 (and_left (leb r.left 31) (leb r.right 31) h)

pub right-low : (r : Range) → T (within r) → r.right ≤ 31
unfolding within
right-low r h = leb→le r.right 31 (and_right (leb r.left 31) (leb r.right 31) h)

-- the direction that a test of it says
pub down : (r : Range) (b : Bool) → b ≡ leb r.right r.left → b ≡ true → r.right ≤ r.left
down r b e f = leb-true r.right r.left (sym e ∙ f)

pub up : (r : Range) (b : Bool) → b ≡ leb r.right r.left → b ≡ false → r.left < r.right
up r b e f = leb-false r.right r.left (sym e ∙ f)

-- the value of a range that is declared downwards, and of one that is declared upwards
pub value-descending : (r : Range) (wires : ℕ) → r.right ≤ r.left
    → value_of r wires ≡ number (suc (r.left - r.right)) (λ (k : ℕ). bit wires (r.right + k))
unfolding value_of width wire_of
value-descending r wires h = simp (le-leb _ _ h)

pub value-ascending : (r : Range) (wires : ℕ) → r.left < r.right
    → value_of r wires ≡ number (suc (r.right - r.left)) (λ (k : ℕ). bit wires (r.right - k))
unfolding value_of width wire_of
value-ascending r wires h = simp (lt-leb _ _ h)

-- wires from one end and from the other are 0 together
pub none-either-way : (low high wires : ℕ) → low < high
    → not (eqb (number (suc (high - low)) (λ (k : ℕ). bit wires (low + k))) 0) ≡ not (eqb (number (suc (high - low)) (λ (k : ℕ). bit wires (high - k))) 0)
none-either-way low high wires h = number-some n up ∙ iff-eq (some n up) (some n down) (turn up down other) (turn down up back) ∙ sym (number-some n down)
  where
    n : ℕ
    n = suc (high - low)

    up : ℕ → Bool
    up k = bit wires (low + k)

    down : ℕ → Bool
    down k = bit wires (high - k)

    other : (k : ℕ) → k < n → up k ≡ down (high - low - k)
    other k l = let e : low + k ≡ high - (high - low - k) = omega arith in ap (bit wires) e

    back : (k : ℕ) → k < n → down k ≡ up (high - low - k)
    back k l = let e : high - k ≡ low + (high - low - k) = omega arith in ap (bit wires) e

    turn : (f g : ℕ → Bool) → ((k : ℕ) → k < n → f k ≡ g (high - low - k)) → T (some n f) → T (some n g)
    turn f g same t =
        let r = some-elim n f t in some-intro n g (high - low - r.at) (omega arith) (rw (← same r.at r.low) r.holds)

-- a port has at most 32 wires
pub width-le : (r : Range) → T (within r) → width r ≤ 32
unfolding width
width-le r h =
    ⊎_elim (λ (e : leb r.right r.left ≡ true). simp e (omega (arith, left-low r h)))
    (λ (e : leb r.right r.left ≡ false). simp e (omega (arith, right-low r h))) (either (leb r.right r.left))

-- and one that is declared upwards has at least two
pub ascends-width : (r : Range) → r.left < r.right → 1 < width r
unfolding width
ascends-width r h = rw (lt-leb _ _ h) (omega arith)

-- A port of width 1 has the one wire `left`, and its value is what that wire holds.
pub value-wire : (r : Range) (wires : ℕ) → width r ≡ 1 → bit wires r.left ≡ eqb (value_of r wires) 1
unfolding value_of width wire_of
value-wire r wires e =
    sym
    (ap (λ (k : ℕ). eqb (number k (λ i. bit wires (wire_of r i))) 1) e ∙ number-one (λ i. bit wires (wire_of r i))
    ∙ ap (bit wires) (first (leb r.right r.left) refl e))
  where
    first : (b : Bool) → leb r.right r.left ≡ b → suc (cond b (r.left - r.right) (r.right - r.left)) ≡ 1
        → cond b (r.right + 0) (r.right - 0) ≡ r.left
    first true f h = omega (arith, leb-true r.right r.left f)
    first false f h = omega (arith, leb-false r.right r.left f)

value-small : (r : Range) (wires : ℕ) → value_of r wires < 2 ^ width r
unfolding value_of
value-small r wires = number_lt (width r) (λ k. bit wires (wire_of r k))

-- two numbers of bits are the same where those of the same bits in the other order are
both-turned : (n : ℕ) (f g : ℕ → Bool)
    → eqb (number n f) (number n g) ≡ eqb (number n (λ k. f (n - 1 - k))) (number n (λ k. g (n - 1 - k)))
both-turned n f g =
    iff-eq (eqb (number n f) (number n g)) (eqb (number n f') (number n g'))
    (λ h.
    of-true
    (eq-eqb (number n f') (number n g') (number-ext n f' g' (λ k l. bits f g (eqb→eq (number n f) (number n g) h) (n - 1 - k) (omega arith)))))
    (λ h.
    of-true
    (eq-eqb (number n f) (number n g)
    (number-ext n f g
    (λ k l. let back : n - 1 - (n - 1 - k) ≡ k = omega arith in rw back at (bits f' g' (eqb→eq (number n f') (number n g') h) (n - 1 - k) (omega arith))))))
  where
    f' : ℕ → Bool
    f' k = f (n - 1 - k)

    g' : ℕ → Bool
    g' k = g (n - 1 - k)

    bits : (x y : ℕ → Bool) → number n x ≡ number n y → (i : ℕ) → i < n → x i ≡ y i
    bits x y e i l = sym (bit-number n x i l) ∙ ap (λ (m : ℕ). bit m i) e ∙ bit-number n y i l

-- Declared from the other end, the port is as wide, and its bits come in the other order.
module _ (r r' : Range) (p : r'.left ≡ r.right) (q : r'.right ≡ r.left) where
  pub turned-within : T (within r) → T (within r')
  unfolding within
  turned-within h =
      and_intro (leb r'.left 31) (leb r'.right 31) (le→leb r'.left 31 (omega (arith, right-low r h)))
      (le→leb r'.right 31 (omega (arith, left-low r h)))

  pub turned-width : width r' ≡ width r
  unfolding width
  turned-width = by (leb r.right r.left) (leb r'.right r'.left) refl refl
    where
      by : (b b' : Bool) → leb r.right r.left ≡ b → leb r'.right r'.left ≡ b'
          → suc (cond b' (r'.left - r'.right) (r'.right - r'.left)) ≡ suc (cond b (r.left - r.right) (r.right - r.left))
      by true true e f = omega (arith, leb-true r.right r.left e, leb-true r'.right r'.left f)
      by true false e f = omega (arith, leb-true r.right r.left e, leb-false r'.right r'.left f)
      by false true e f = omega (arith, leb-false r.right r.left e, leb-true r'.right r'.left f)
      by false false e f = omega (arith, leb-false r.right r.left e, leb-false r'.right r'.left f)

  turned-wire : (i : ℕ) → i < width r → wire_of r' i ≡ wire_of r (width r - 1 - i)
  unfolding width wire_of
  turned-wire i = by (leb r.right r.left) (leb r'.right r'.left) refl refl
    where
      by : (b b' : Bool) → leb r.right r.left ≡ b → leb r'.right r'.left ≡ b'
          → i < suc (cond b (r.left - r.right) (r.right - r.left))
          → cond b' (r'.right + i) (r'.right - i)
          ≡ cond b (r.right + (suc (cond b (r.left - r.right) (r.right - r.left)) - 1 - i))
          (r.right - (suc (cond b (r.left - r.right) (r.right - r.left)) - 1 - i))
      by true true e f l = omega (arith, leb-true r.right r.left e, leb-true r'.right r'.left f)
      by true false e f l = omega (arith, leb-true r.right r.left e, leb-false r'.right r'.left f)
      by false true e f l = omega (arith, leb-false r.right r.left e, leb-true r'.right r'.left f)
      by false false e f l = omega (arith, leb-false r.right r.left e, leb-false r'.right r'.left f)

  pub value-turned : (wires : ℕ) → value_of r' wires ≡ number (width r) (λ (i : ℕ). bit (value_of r wires) (width r - 1 - i))
  unfolding value_of
  value-turned wires =
      ap (λ (k : ℕ). number k (λ (i : ℕ). bit wires (wire_of r' i))) turned-width
      ∙ number-ext (width r) (λ (i : ℕ). bit wires (wire_of r' i)) (λ (i : ℕ). bit (value_of r wires) (width r - 1 - i))
      (λ i l.
      ap (bit wires) (turned-wire i l)
      ∙ sym (bit-number (width r) (λ (k : ℕ). bit wires (wire_of r k)) (width r - 1 - i) (omega arith)))

  -- so a value is compared from the other end
  pub turned-compared : (v x : ℕ) → v < 2 ^ width r → x ≡ number (width r) (λ (k : ℕ). bit v (width r - 1 - k)) → (wires : ℕ)
      → eqb (value_of r' wires) x ≡ eqb (value_of r wires) v
  turned-compared v x l e wires =
      ap₂ eqb (value-turned wires) e ∙ sym (both-turned (width r) (bit (value_of r wires)) (bit v))
      ∙ ap₂ eqb (sym (number_is (width r) (value_of r wires) (bit (value_of r wires)) (value-small r wires) (λ k i. refl)))
      (sym (number_is (width r) v (bit v) l (λ k i. refl)))
