-- Bits that are 0 exactly where a number is as it should be: where bits of two are put together, they are 0 where both are; what lies above a number's k
-- lowest bits is 0 where it is below 2^k. A number without its lowest set bit has one set bit less. Assumes nothing.
use Rattle.std.proofs.Common.{◌≡◌, ℕ, suc, ◌+◌, ◌-◌, ◌*◌, ◌/◌, ◌%◌, ◌^◌, ◌<◌, ◌≤◌, Bool, true, false, ◌&&◌, ◌||◌, T, eqb, ltb, leb, sym, refl, ap, ◌∙◌, ap₂, ⊎_elim, zero-le, lt_of_le_of_lt, add-zero, mod-lt, mod-eq_of_lt, add-mul, one-mul, zero-mul, arith, le→leb, eqb→eq, ltb→lt, lt→ltb, leb→le, pow_pos, pow_mono, ltb-false, ltb-true, eq-eqb, ne_eqb, eqb-true, le-leb, leb-false, leb-true}
use mathlib.Core.Bool.{or-false, and-false, and-true}
use native.Mathlib.Nat.{div-eq_of_lt, div-eq_of_lt-le, two-pow-succ}
use borrow.Author.Tests.{eqb-false, lt-leb}
use lib.Bits.{bit_and, bit_or, and_le_l, and_le_r, and_zero_l, and_zero_r, or_add_and, or_shr, and_mask}
use lib.Count.{ones}
use lib.Pow.{shr_le, split}
use Rattle.bits.proofs.Ones.{ones_none, ones-less}
use Rattle.bits.proofs.Tests.{of-true, either, iff-eq, and_intro, and_left, and_right}
use Rattle.bus.specs.Range.{width}
use Rattle.bus.proofs.Ranges.{width-le}
use Rattle.rules.specs.declared.config.Config.{Config}
use Rattle.rules.specs.Config.{Good}
use Rattle.rules.proofs.Good.{p-within}

-- bits put together
pub or-zero : (x y : ℕ) → eqb (bit_or x y) 0 ≡ (eqb x 0 && eqb y 0)
or-zero x y = iff-eq (eqb (bit_or x y) 0) (eqb x 0 && eqb y 0) apart together
  where
    apart : T (eqb (bit_or x y) 0) → T (eqb x 0 && eqb y 0)
    apart h =
        let e = eqb→eq (bit_or x y) 0 h in
        let x-zero : x ≡ 0 = omega (arith, or_add_and x y, and_le_r x y) in
        let y-zero : y ≡ 0 = omega (arith, or_add_and x y, and_le_l x y) in
        and_intro (eqb x 0) (eqb y 0) (of-true (eq-eqb x 0 x-zero)) (of-true (eq-eqb y 0 y-zero))

    together : T (eqb x 0 && eqb y 0) → T (eqb (bit_or x y) 0)
    together h =
        let x-zero = eqb→eq x 0 (and_left (eqb x 0) (eqb y 0) h) in
        let y-zero = eqb→eq y 0 (and_right (eqb x 0) (eqb y 0) h) in
        of-true (eq-eqb (bit_or x y) 0 (omega (arith, or_add_and x y)))

-- the bits from place k on
pub high_zero : (x k : ℕ) → eqb (x / 2 ^ k) 0 ≡ ltb x (2 ^ k)
high_zero x k =
    iff-eq (eqb (x / 2 ^ k) 0) (ltb x (2 ^ k))
    (λ h. lt→ltb x (2 ^ k) (omega (arith, rw (eqb→eq (x / 2 ^ k) 0 h, zero-mul) at (split x k), mod-lt x (pow_pos k))))
    (λ h. of-true (eq-eqb (x / 2 ^ k) 0 (div-eq_of_lt (ltb→lt x (2 ^ k) h))))

-- of two numbers
pub high-or : (x y k : ℕ) → eqb (bit_or x y / 2 ^ k) 0 ≡ (ltb x (2 ^ k) && ltb y (2 ^ k))
high-or x y k = rw (or_shr x y k, or-zero (x / 2 ^ k) (y / 2 ^ k), high_zero x k, high_zero y k)

-- What is missing from the limit to k ones, added to a number, takes it to place k where it is above the limit.
module _ (w limit k s : ℕ) (places : k < 64) (low : limit < 2 ^ k) (s-is : s ≡ (w + (2 ^ k - 1 - limit)) % 2 ^ 64) where
  sum_is : w < 2 ^ k → s ≡ w + (2 ^ k - 1 - limit)
  sum_is h =
      let room : 2 ^ suc k ≤ 2 ^ 64 = pow_mono places in
      s-is ∙ mod-eq_of_lt (omega (arith, two-pow-succ k))

  pub above-is : eqb (bit_or w s / 2 ^ k) 0 ≡ leb w limit
  above-is =
      ⊎_elim
      (λ (e : ltb w (2 ^ k) ≡ true).
      let sum = sum_is (ltb-true w (2 ^ k) e) in
      rw (high-or w s k, e)
      (iff-eq (ltb s (2 ^ k)) (leb w limit) (λ h. le→leb w limit (omega (arith, sum, ltb→lt s (2 ^ k) h)))
      (λ h. lt→ltb s (2 ^ k) (omega (arith, sum, leb→le w limit h)))))
      (λ (e : ltb w (2 ^ k) ≡ false). rw (high-or w s k, e, lt-leb w limit (omega (arith, ltb-false w (2 ^ k) e))))
      (either (ltb w (2 ^ k)))

no_ones : ones 0 ≡ 0
unfolding ones
no_ones = refl

-- A number and the one before it have a set bit in common where the number has two.
module _ (w s : ℕ) (small : s < 2 ^ 64) (s-is : (s + 1) % 2 ^ 64 ≡ w) where
  pub second_is : eqb (bit_and w s) 0 ≡ leb (ones w) 1
  second_is = ⊎_elim (λ e. none (eqb-true w 0 e)) (λ e. some (eqb-false w 0 e)) (either (eqb w 0))
    where
      none : w ≡ 0 → eqb (bit_and w s) 0 ≡ leb (ones w) 1
      none z = rw (z, and_zero_l s, no_ones)

      some : (w ≡ 0 → ⊥) → eqb (bit_and w s) 0 ≡ leb (ones w) 1
      some h =
          let before : s ≡ w - 1 = omega arith in
          let less : suc (ones (bit_and w (w - 1))) ≡ ones w = ones-less w (omega arith) in
          rw before
          (iff-eq (eqb (bit_and w (w - 1)) 0) (leb (ones w) 1)
          (λ t. let z : ones (bit_and w (w - 1)) ≡ 0 = ap ones (eqb→eq (bit_and w (w - 1)) 0 t) ∙ no_ones in le→leb (ones w) 1 (omega arith))
          (λ t. of-true (eq-eqb (bit_and w (w - 1)) 0 (ones_none (bit_and w (w - 1)) (omega (arith, leb→le (ones w) 1 t))))))

-- Of a number of at most tag + 1 bits, the one before its bit at `tag` is all ones or 0.
module _ (w tag k s : ℕ) (word : w < 2 ^ 64) (small : s < 2 ^ 64) (s-is : (s + 1) % 2 ^ 64 ≡ w / 2 ^ tag) (short : w < 2 ^ suc tag) where
  pub untagged-is : eqb (bit_and (w / 2 ^ k) s) 0 ≡ (leb (2 ^ tag) w || ltb w (2 ^ k))
  untagged-is = ⊎_elim tagged plain (either (leb (2 ^ tag) w))
    where
      tagged : leb (2 ^ tag) w ≡ true → eqb (bit_and (w / 2 ^ k) s) 0 ≡ (leb (2 ^ tag) w || ltb w (2 ^ k))
      tagged e =
          let one : w / 2 ^ tag ≡ 1 =
          div-eq_of_lt-le (2 ^ tag) (omega (arith, one-mul (2 ^ tag), leb-true (2 ^ tag) w e)) (omega (arith, two-pow-succ tag, add-mul 1 1 (2 ^ tag), one-mul (2 ^ tag))) in
          let z : s ≡ 0 = omega arith in
          rw (e, z, and_zero_r (w / 2 ^ k))

      plain : leb (2 ^ tag) w ≡ false → eqb (bit_and (w / 2 ^ k) s) 0 ≡ (leb (2 ^ tag) w || ltb w (2 ^ k))
      plain e =
          let none : w / 2 ^ tag ≡ 0 = div-eq_of_lt (leb-false (2 ^ tag) w e) in
          let all : s ≡ 2 ^ 64 - 1 = omega arith in
          rw (e, all, and_mask (w / 2 ^ k) 64, mod-eq_of_lt (lt_of_le_of_lt (shr_le w k) word), high_zero w k)

-- The cycles left of a window: at least 1 where a reference is held, and then with min at most n.
module _ (left held min n s : ℕ) (left-low : left < 2 ^ 16) (held_Low : held < 2 ^ 16) (n-low : n ≤ 65535) (small : s < 2 ^ 64)
    (s-is : (s + held) % 2 ^ 64 ≡ left) where
  pub cycles-are : eqb (bit_or s (left + held * min + (65535 - n)) / 2 ^ 16) 0 ≡ (leb held left && leb (left + held * min) n)
  cycles-are =
      high-or s (left + held * min + (65535 - n)) 16
      ∙ ap₂ (λ (a b : Bool). a && b)
      (iff-eq (ltb s (2 ^ 16)) (leb held left) (λ h. le→leb held left (omega (arith, ltb→lt s (2 ^ 16) h)))
      (λ h. lt→ltb s (2 ^ 16) (omega (arith, leb→le held left h))))
      (iff-eq (ltb (left + held * min + (65535 - n)) (2 ^ 16)) (leb (left + held * min) n)
      (λ h. le→leb (left + held * min) n (omega (arith, ltb→lt (left + held * min + (65535 - n)) (2 ^ 16) h)))
      (λ h. lt→ltb (left + held * min + (65535 - n)) (2 ^ 16) (omega (arith, leb→le (left + held * min) n h))))

-- Kind 6, with values below W: at most 2^32 + W − 1, and not below 2^32 but 0.
module _ (w W : ℕ) (some : 0 < W) (u : Bool) (u-is : w < 2 ^ 33 → u ≡ (leb (2 ^ 32) w || ltb w (2 ^ 0))) (W-low : W ≤ 2 ^ 32) where
  pub stored_is : (leb w (2 ^ 32 + (W - 1)) && u) ≡ (eqb w 0 || (leb (2 ^ 32) w && ltb (w - 2 ^ 32) W))
  stored_is = ⊎_elim tagged plain (either (leb (2 ^ 32) w))
    where
      tagged : leb (2 ^ 32) w ≡ true → (leb w (2 ^ 32 + (W - 1)) && u) ≡ (eqb w 0 || (leb (2 ^ 32) w && ltb (w - 2 ^ 32) W))
      tagged e =
          let high = leb-true (2 ^ 32) w e in
          ⊎_elim
          (λ (f : ltb (w - 2 ^ 32) W ≡ true).
          let low = ltb-true (w - 2 ^ 32) W f in
          let here : w < 2 ^ 33 = omega arith in
          rw (le-leb w (2 ^ 32 + (W - 1)) (omega arith), u-is here, e, f, ne_eqb w 0 (λ z. omega arith)))
          (λ (f : ltb (w - 2 ^ 32) W ≡ false).
          let over = ltb-false (w - 2 ^ 32) W f in
          rw (lt-leb w (2 ^ 32 + (W - 1)) (omega arith), e, f, ne_eqb w 0 (λ z. omega arith)))
          (either (ltb (w - 2 ^ 32) W))

      plain : leb (2 ^ 32) w ≡ false → (leb w (2 ^ 32 + (W - 1)) && u) ≡ (eqb w 0 || (leb (2 ^ 32) w && ltb (w - 2 ^ 32) W))
      plain e =
          let low = leb-false (2 ^ 32) w e in
          let here : w < 2 ^ 33 = omega arith in
          rw (le-leb w (2 ^ 32 + (W - 1)) (omega arith), u-is here, e, or-false)
          (iff-eq (ltb w 1) (eqb w 0) (λ h. of-true (eq-eqb w 0 (omega (arith, ltb→lt w 1 h)))) (λ h. lt→ltb w 1 (omega (arith, eqb→eq w 0 h))))

-- Kind 8, with references below W.
module _ (w W n min : ℕ) (some : 0 < W) (W-low : W ≤ 2 ^ 32) (n-low : n ≤ 65535) (min-low : min ≤ n)
    (u y : Bool) (u-is : w < 2 ^ 49 → u ≡ (leb (2 ^ 48) w || ltb w (2 ^ 16)))
    (y-is : y ≡ (leb (w / 2 ^ 48) (w % 2 ^ 16) && leb (w % 2 ^ 16 + w / 2 ^ 48 * min) n)) where
  -- what is due: 0, a window without a reference, or one with a reference
  abbrev due : Bool
  due = eqb w 0 || leb w n || (leb (2 ^ 48) w && (ltb 0 (w % 2 ^ 16) && leb (w % 2 ^ 16) (n - min)) && ltb ((w - 2 ^ 48) / 2 ^ 16) W)

  -- without a reference
  without_is : (ltb w (2 ^ 16) && (leb 0 (w % 2 ^ 16) && leb (w % 2 ^ 16 + 0 * min) n)) ≡ (eqb w 0 || leb w n)
  without_is =
      rw (le-leb 0 (w % 2 ^ 16) zero-le, zero-mul, add-zero)
      (⊎_elim (λ (l : ltb w 65536 ≡ true). let same : w % 65536 ≡ w = mod-eq_of_lt (ltb-true w 65536 l) in rw (l, same) (sym zero-fits))
      (λ (l : ltb w 65536 ≡ false).
      rw (l, lt-leb w n (omega (arith, ltb-false w 65536 l)), ne_eqb w 0 (λ z. omega (arith, ltb-false w 65536 l))))
      (either (ltb w 65536)))
    where
      -- 0 is below any n
      zero-fits : (eqb w 0 || leb w n) ≡ leb w n
      zero-fits =
          ⊎_elim (λ (e : eqb w 0 ≡ true). rw (e, le-leb w n (omega (arith, eqb-true w 0 e)))) (λ (e : eqb w 0 ≡ false). rw e) (either (eqb w 0))

  pub window-is : ((leb w (2 ^ 48 + (W * 2 ^ 16 - 1)) && u) && y) ≡ due
  window-is = ⊎_elim tagged plain (either (leb (2 ^ 48) w))
    where
      tagged : leb (2 ^ 48) w ≡ true → ((leb w (2 ^ 48 + (W * 2 ^ 16 - 1)) && u) && y) ≡ due
      tagged e =
          let high = leb-true (2 ^ 48) w e in
          let not-zero : eqb w 0 ≡ false = ne_eqb w 0 (λ z. omega arith) in
          let long : leb w n ≡ false = lt-leb w n (omega arith) in
          ⊎_elim
          (λ (f : ltb ((w - 2 ^ 48) / 2 ^ 16) W ≡ true).
          let low = ltb-true ((w - 2 ^ 48) / 2 ^ 16) W f in
          let here : w < 2 ^ 49 = omega arith in
          let one : w / 2 ^ 48 ≡ 1 = omega arith in
          let left : ℕ = w % 2 ^ 16 in
          rw (le-leb w (2 ^ 48 + (W * 2 ^ 16 - 1)) (omega arith), u-is here, y-is, one, e, f, not-zero, long, and-true)
          (ap₂ (λ (a b : Bool). a && b)
          (iff-eq (leb 1 left) (ltb 0 left) (λ h. lt→ltb 0 left (leb→le 1 left h)) (λ h. le→leb 1 left (ltb→lt 0 left h)))
          (iff-eq (leb (left + 1 * min) n) (leb left (n - min)) (λ h. le→leb left (n - min) (omega (arith, leb→le (left + 1 * min) n h)))
          (λ h. le→leb (left + 1 * min) n (omega (arith, leb→le left (n - min) h))))))
          (λ (f : ltb ((w - 2 ^ 48) / 2 ^ 16) W ≡ false).
          let over = ltb-false ((w - 2 ^ 48) / 2 ^ 16) W f in
          rw (lt-leb w (2 ^ 48 + (W * 2 ^ 16 - 1)) (omega arith), f, not-zero, long, and-false))
          (either (ltb ((w - 2 ^ 48) / 2 ^ 16) W))

      plain : leb (2 ^ 48) w ≡ false → ((leb w (2 ^ 48 + (W * 2 ^ 16 - 1)) && u) && y) ≡ due
      plain e =
          let low = leb-false (2 ^ 48) w e in
          let here : w < 2 ^ 49 = omega arith in
          let zero_held : w / 2 ^ 48 ≡ 0 = omega arith in
          rw (le-leb w (2 ^ 48 + (W * 2 ^ 16 - 1)) (omega arith), u-is here, y-is, zero_held, e, or-false) without_is

-- what the width of P leaves room for
pub width_room : (c : Config) → Good c → 2 ^ width c.p ≤ 2 ^ 32
width_room c good = pow_mono (width-le c.p (p-within c good))
