-- Words made of bits: one bit changed, and one value of a frame. Assumes nothing.
use mathlib.Core.Path.{◌≡◌, refl, ◌∙◌, ap}
use mathlib.Core.Bool.{Bool, true, false, not, ◌&&◌, ◌||◌}
use mathlib.Core.List.{List, [], ◌∷◌, map}
use Prim.Native.Nat.{ℕ, zero, suc, ◌+◌, ◌-◌, ◌*◌, ◌%◌, ◌^◌, ◌<◌, ◌≤◌}
use native.Mathlib.Nat.{mod-eq_of_lt, two-pow-succ, one-mul, mul-le-mul}
use native.Mathlib.Omega.{arith}
use lib.Bits.{or_lt}
use lib.Dec.{eqb, leb, ltb, lit<}
use lib.ListN.{length, get_or, take, drop, set, length-take, length-drop, length-set, length-map}
use lib.Pow.{pow_mono}
use lib.Seq.{get_or-set_same, get_or-set_other, take-set-lt, take-set-le, drop-set-lt, drop-set-add, get_or-drop}
use borrow.Author.Tests.{le-leb, eqb-true, eqb-false, ltb-true, ltb-false, leb-true}
use Rattle.dump.specs.Changes.{packed, word_of}
use Rattle.dump_values.specs.Values.{with_bit}
use Rattle.bits.specs.Bits.{bit, without}
use Rattle.bits.proofs.Bits.{bit-or, bit-without, bit-shl, bit-low, bit-double, bit_past, same_bits, without-lt}

-- BITS OF A PACKED LIST
pub packed-bit : (l : List ℕ) → ((i : ℕ) → get_or l i 0 < 2) → (i : ℕ) → bit (packed l) i ≡ eqb (get_or l i 0) 1
unfolding packed bit
packed-bit [] h i = bit_past 0 0 i (lit< tt) (omega arith)
packed-bit (b ∷ l) h zero = let e : b + 2 * packed l ≡ packed l * 2 + b = omega arith in rw e (bit-low (packed l) b (h 0))
packed-bit (b ∷ l) h (suc i) =
    let e : b + 2 * packed l ≡ packed l * 2 + b = omega arith in
    rw e (bit-double (packed l) b i (h 0) ∙ packed-bit l (λ j. h (suc j)) i)

pub packed_lt : (l : List ℕ) → ((i : ℕ) → get_or l i 0 < 2) → packed l < 2 ^ length l
unfolding packed
packed_lt [] h = lit< tt
packed_lt (b ∷ l) h = omega (arith, h 0, packed_lt l (λ j. h (suc j)), two-pow-succ (length l))

-- a bit that is moved to place i
moved_same : (b i : ℕ) → b < 2 → bit (b * 2 ^ i) i ≡ eqb b 1
moved_same b i h =
    let e : i - i ≡ 0 = omega arith in
    let f : b ≡ 0 * 2 + b = omega arith in
    rw (bit-shl b i i, le-leb i i (omega arith), e) (ap (λ (n : ℕ). bit n 0) f ∙ bit-low 0 b h)

moved_other : (b i j : ℕ) → b < 2 → (j ≡ i → ⊥) → bit (b * 2 ^ i) j ≡ false
moved_other b i j h n = rw (bit-shl b i j) (go (leb i j) refl)
  where
    go : (t : Bool) → leb i j ≡ t → (t && bit b (j - i)) ≡ false
    go false e = refl
    go true e = bit_past b 1 (j - i) h (omega (arith, leb-true i j e, n))

-- LISTS OF SMALL NUMBERS
pub set-each : (m : ℕ) (l : List ℕ) (i b : ℕ) → ((j : ℕ) → get_or l j 0 < m) → b < m → (j : ℕ) → get_or (set l i b) j 0 < m
set-each m [] i b h k j = h j
set-each m (x ∷ l) zero b h k zero = k
set-each m (x ∷ l) zero b h k (suc j) = h (suc j)
set-each m (x ∷ l) (suc i) b h k zero = h 0
set-each m (x ∷ l) (suc i) b h k (suc j) = set-each m l i b (λ j. h (suc j)) k j

take-each : (m n : ℕ) (l : List ℕ) → ((j : ℕ) → get_or l j 0 < m) → 0 < m → (j : ℕ) → get_or (take n l) j 0 < m
take-each m zero l h k j = k
take-each m (suc n) [] h k j = k
take-each m (suc n) (x ∷ l) h k zero = h 0
take-each m (suc n) (x ∷ l) h k (suc j) = take-each m n l (λ j. h (suc j)) k j

map_each : (f : ℕ → ℕ) (m n : ℕ) (l : List ℕ) → ((v : ℕ) → v < m → f v < n) → 0 < n → ((j : ℕ) → get_or l j 0 < m) → (j : ℕ) → get_or (map f l) j 0 < n
map_each f m n [] g k h j = k
map_each f m n (x ∷ l) g k h zero = g x (h 0)
map_each f m n (x ∷ l) g k h (suc j) = map_each f m n l g k (λ j. h (suc j)) j

map-set : (f : ℕ → ℕ) (l : List ℕ) (i v : ℕ) → map f (set l i v) ≡ set (map f l) i (f v)
map-set f [] i v = refl
map-set f (x ∷ l) zero v = refl
map-set f (x ∷ l) (suc i) v = ap (λ (r : List ℕ). f x ∷ r) (map-set f l i v)

-- ONE BIT CHANGED
module _ (l : List ℕ) (bits : (j : ℕ) → get_or l j 0 < 2) (short : length l ≤ 32) (i b : ℕ) (here : i < length l) (small : b < 2) where
  packed-short : packed l < 2 ^ 32
  packed-short = omega (arith, packed_lt l bits, pow_mono short)

  -- it stays within the word
  placed : b * 2 ^ i ≤ 2 ^ 31
  placed = let h : b ≤ 1 = omega arith in let k : i ≤ 31 = omega arith in omega (arith, mul-le-mul h (pow_mono k))

  placed-is : b * 2 ^ i % 2 ^ 64 ≡ b * 2 ^ i
  placed-is = mod-eq_of_lt (omega (arith, placed))

  other-bit : (j : ℕ) → (j ≡ i → ⊥) → bit (with_bit (packed l) i b) j ≡ bit (packed l) j
  unfolding with_bit
  other-bit j n =
      rw (placed-is, bit-or (without (packed l) (2 ^ i)) (b * 2 ^ i) j, bit-without (packed l) (2 ^ i) j, moved_other b i j small n, ← one-mul (2 ^ i), moved_other 1 i j (omega arith) n)
      (go (bit (packed l) j))
    where
      go : (t : Bool) → (t && not false || false) ≡ t
      go true = refl
      go false = refl

  same_bit : bit (with_bit (packed l) i b) i ≡ eqb b 1
  unfolding with_bit
  same_bit =
      rw (placed-is, bit-or (without (packed l) (2 ^ i)) (b * 2 ^ i) i, bit-without (packed l) (2 ^ i) i, moved_same b i small, ← one-mul (2 ^ i), moved_same 1 i (omega arith))
      (go (bit (packed l) i))
    where
      go : (t : Bool) → (t && not true || eqb b 1) ≡ eqb b 1
      go true = refl
      go false = refl

  set-bit : (j : ℕ) → bit (with_bit (packed l) i b) j ≡ bit (packed (set l i b)) j
  set-bit j = rw (packed-bit (set l i b) (set-each 2 l i b bits small) j) (go (eqb j i) refl)
    where
      go : (t : Bool) → eqb j i ≡ t → bit (with_bit (packed l) i b) j ≡ eqb (get_or (set l i b) j 0) 1
      go true e = rw (eqb-true j i e, get_or-set_same l i b 0 here) same_bit
      go false e = rw (get_or-set_other l i j b 0 (eqb-false j i e)) (other-bit j (eqb-false j i e) ∙ packed-bit l bits j)

  pub with-bit : with_bit (packed l) i b ≡ packed (set l i b)
  unfolding with_bit
  with-bit =
      let h : length (set l i b) ≤ 32 = simp length-set (omega arith) in
      same_bits 32 (with_bit (packed l) i b) (packed (set l i b))
      (or_lt 32 (without (packed l) (2 ^ i)) (b * 2 ^ i % 2 ^ 64) (without-lt 32 (packed l) (2 ^ i) packed-short) (omega (arith, placed, placed-is)))
      (omega (arith, packed_lt (set l i b) (set-each 2 l i b bits small), pow_mono h)) (λ j _. set-bit j)

-- THE WORDS OF A FRAME, of which f tells a bit
module _ (f : ℕ → ℕ) (tells : (v : ℕ) → v < 3 → f v < 2) (vs : List ℕ) where
  module _ (each : (e : ℕ) → get_or vs e 0 < 3) where
    bits_each : (w j : ℕ) → get_or (map f (take 32 (drop (1 + 32 * w) vs))) j 0 < 2
    bits_each w =
        let h : ((j : ℕ) → get_or (drop (1 + 32 * w) vs) j 0 < 3) = λ j. rw (get_or-drop (1 + 32 * w) vs j 0) (each (1 + 32 * w + j)) in
        map_each f 3 2 (take 32 (drop (1 + 32 * w) vs)) tells (omega arith) (take-each 3 32 (drop (1 + 32 * w) vs) h (omega arith))

    word-length : (w : ℕ) → length vs ≡ 129 → w < 4 → length (map f (take 32 (drop (1 + 32 * w) vs))) ≡ 32
    word-length w e h = simp (length-map, length-take, length-drop) (omega arith)

    pub word_lt : (w : ℕ) → word_of f vs w < 2 ^ 32
    word_lt w =
        let h : length (map f (take 32 (drop (1 + 32 * w) vs))) ≤ 32 = simp (length-map, length-take) (omega arith) in
        omega (arith, packed_lt (map f (take 32 (drop (1 + 32 * w) vs))) (bits_each w), pow_mono h)

    -- one wire of the word is put there; any other value leaves it as it is
    pub word-put : (w i v : ℕ) → length vs ≡ 129 → w < 4 → i < 32 → v < 3 → with_bit (word_of f vs w) i (f v) ≡ word_of f (set vs (1 + 32 * w + i) v) w
    word-put w i v e h k g =
        let n : length (map f (take 32 (drop (1 + 32 * w) vs))) ≡ 32 = word-length w e h in
        rw (drop-set-add (1 + 32 * w) vs i v, take-set-lt 32 (drop (1 + 32 * w) vs) i v k, map-set f (take 32 (drop (1 + 32 * w) vs)) i v)
        (with-bit (map f (take 32 (drop (1 + 32 * w) vs))) (bits_each w) (omega arith) i (f v) (omega arith) (tells v g))

  pub word-above : (w i v : ℕ) → 32 ≤ i → word_of f (set vs (1 + 32 * w + i) v) w ≡ word_of f vs w
  word-above w i v h = rw (drop-set-add (1 + 32 * w) vs i v, take-set-le 32 (drop (1 + 32 * w) vs) i v h)

  pub word_below : (w e v : ℕ) → e < 1 + 32 * w → word_of f (set vs e v) w ≡ word_of f vs w
  word_below w e v h = rw (drop-set-lt (1 + 32 * w) vs e v h)

  pub word-other : (w u i v : ℕ) → (w ≡ u → ⊥) → i < 32 → word_of f (set vs (1 + 32 * u + i) v) w ≡ word_of f vs w
  word-other w u i v n h = go (ltb w u) refl
    where
      go : (t : Bool) → ltb w u ≡ t → word_of f (set vs (1 + 32 * u + i) v) w ≡ word_of f vs w
      go true e =
          let l : w < u = ltb-true w u e in
          let a : 1 + 32 * u + i ≡ 1 + 32 * w + (32 * (u - w) + i) = omega arith in
          rw a (word-above w (32 * (u - w) + i) v (omega arith))
      go false e = word_below w (1 + 32 * u + i) v (omega (arith, ltb-false w u e, n))
