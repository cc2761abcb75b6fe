-- Words as numbers, the first byte lowest: in parts, bounded, told apart. Assumes nothing.
use mathlib.Core.Path.{◌≡◌, refl, sym, ap₂}
use mathlib.Core.Bool.{Bool, true, false, ◌&&◌}
use mathlib.Core.List.{List, [], ◌∷◌, ◌++◌}
use Prim.Native.Nat.{ℕ, zero, suc, ◌+◌, ◌*◌, ◌%◌, ◌^◌, ◌<◌, ◌≤◌}
use native.Mathlib.Nat.{mod-eq_of_lt, mul-le-mul, pow-le-pow_right}
use native.Mathlib.Omega.{arith}
use lib.Bits.{bit_or, or_shifted_r}
use lib.Dec.{ltb, eqb, lit<}
use lib.ListN.{length, get_or, take, drop}
use borrow.Author.Tests.{ltb-true, eq-eqb, eqb-true}
use Rattle.dump.specs.Text.{code_of, same}
use Rattle.dump_gathered.specs.Gathered.{Bytes, all_bytes}

pub both : (s t : Bool) → s && t ≡ true → (s ≡ true) × (t ≡ true)
both true t e = (refl, e)
both false t e = let z : ◌≡◌ {A = ℕ} 0 1 = cc in absurd (omega arith)

-- two tests are one if each follows from the other
pub one-test : (s t : Bool) → (s ≡ true → t ≡ true) → (t ≡ true → s ≡ true) → s ≡ t
one-test true t f g = sym (f refl)
one-test false true f g = g refl
one-test false false f g = refl

-- BYTES
pub bytes-at : (w : List ℕ) → ((i : ℕ) → i < length w → get_or w i 0 < 256) → Bytes w
bytes-at [] h = tt
bytes-at (b ∷ w) h = (h 0 (omega arith), bytes-at w (λ i l. h (suc i) (omega arith)))

pub bytes-test : (w : List ℕ) → all_bytes w ≡ true → Bytes w
unfolding all_bytes
bytes-test [] e = tt
bytes-test (b ∷ w) e = let (p, q) = both (ltb b 256) (all_bytes w) e in (ltb-true b 256 p, bytes-test w q)

pub bytes-append : (x y : List ℕ) → Bytes x → Bytes y → Bytes (x ++ y)
bytes-append [] y g h = h
bytes-append (b ∷ x) y g h = (g.0, bytes-append x y g.1 h)

pub bytes_take : (n : ℕ) (w : List ℕ) → Bytes w → Bytes (take n w)
bytes_take zero w h = tt
bytes_take (suc n) [] h = tt
bytes_take (suc n) (b ∷ w) h = (h.0, bytes_take n w h.1)

pub bytes_drop : (n : ℕ) (w : List ℕ) → Bytes w → Bytes (drop n w)
bytes_drop zero w h = h
bytes_drop (suc n) [] h = tt
bytes_drop (suc n) (b ∷ w) h = bytes_drop n w h.1

-- NUMBERS OF WORDS
byte_more : (m : ℕ) → 2 ^ (8 * suc m) ≡ 256 * 2 ^ (8 * m)
byte_more m = let e : 8 * suc m ≡ suc (suc (suc (suc (suc (suc (suc (suc (8 * m)))))))) = omega arith in rw e (omega arith)

pub code_lt : (w : List ℕ) → Bytes w → code_of w < 2 ^ (8 * length w)
unfolding code_of
code_lt [] h = lit< tt
code_lt (b ∷ w) h = omega (arith, byte_more (length w), code_lt w h.1, h.0)

pub code-append : (x y : List ℕ) → code_of (x ++ y) ≡ code_of x + code_of y * 2 ^ (8 * length x)
unfolding code_of
code-append [] y = omega arith
code-append (b ∷ x) y = rw (code-append x y, byte_more (length x)) (omega arith)

pub code-inj : (x y : List ℕ) → Bytes x → Bytes y → length x ≡ length y → code_of x ≡ code_of y → x ≡ y
unfolding code_of
code-inj [] [] g h l e = refl
code-inj [] (b ∷ y) g h l e = absurd (omega arith)
code-inj (a ∷ x) [] g h l e = absurd (omega arith)
code-inj (a ∷ x) (b ∷ y) g h l e = ap₂ (λ (u : ℕ) (v : List ℕ). u ∷ v) (omega arith) (code-inj x y g.1 h.1 (omega arith) (omega arith))

-- a byte that is shifted behind at most seven others stays within 64 bits
pub shifted : (b m : ℕ) → b < 256 → m < 8 → b * 2 ^ (8 * m) % 2 ^ 64 ≡ b * 2 ^ (8 * m)
shifted b m h k =
    let i : b ≤ 255 = omega arith in
    let j : 8 * m ≤ 56 = omega arith in
    let l : b * 2 ^ (8 * m) ≤ 255 * 2 ^ 56 = mul-le-mul i (pow-le-pow_right (lit< tt) j) in
    mod-eq_of_lt (omega arith)

-- so it is added by `or`
pub code-snoc : (w : List ℕ) (b : ℕ) → Bytes w → b < 256 → length w < 8 → bit_or (code_of w) (b * 2 ^ (8 * length w) % 2 ^ 64) ≡ code_of (w ++ (b ∷ []))
unfolding code_of
code-snoc w b g h k =
    rw (shifted b (length w) h k, or_shifted_r b (8 * length w) (code_of w) (code_lt w g), code-append w (b ∷ [])) (omega arith)

-- THE SAME WORD
pub same_self : (w : List ℕ) → same w w ≡ true
unfolding same
same_self [] = refl
same_self (b ∷ w) = rw (eq-eqb b b refl) (same_self w)

pub same-eq : (x y : List ℕ) → same x y ≡ true → x ≡ y
unfolding same
same-eq [] [] e = refl
same-eq [] (b ∷ y) e = let z : ◌≡◌ {A = ℕ} 0 1 = cc in absurd (omega arith)
same-eq (a ∷ x) [] e = let z : ◌≡◌ {A = ℕ} 0 1 = cc in absurd (omega arith)
same-eq (a ∷ x) (b ∷ y) e = let (p, q) = both (eqb a b) (same x y) e in ap₂ (λ (u : ℕ) (v : List ℕ). u ∷ v) (eqb-true a b p) (same-eq x y q)
