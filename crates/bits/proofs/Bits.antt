-- Laws of the bits of a number, and of the number made of given bits. Assumes nothing.
use Prim.Native.Nat.{ℕ, zero, suc, ◌+◌, ◌-◌, ◌*◌, ◌/◌, ◌%◌, ◌^◌, ◌<◌, ◌≤◌, zero-le}
use mathlib.Core.Path.{◌≡◌, refl, sym, ap, ap₂, subst⁻¹, ◌∙◌}
use mathlib.Core.Bool.{Bool, true, false, not, ◌&&◌, ◌||◌, cond, or-true, or-false}
use mathlib.Core.Logic.{⊎_elim}
use native.Mathlib.Nat.{le_of_suc-le-suc, not-suc-le-zero, eq-or-lt_of_le, le_refl, le_step, lt_of_lt_of_le, lt_of_le_of_lt, add-zero, one-mul, zero-mul, mod-lt, mod-eq_of_lt, mod-one, div-one, div-eq_of_lt, mul-mod_left, pow-succ', two-pow-succ, add_comm, div-eq_of_lt-le, add-mul}
use native.Mathlib.Omega.{arith}
use lib.Dec.{T, eqb, leb, ltb, lit<, leb→le, le→leb, ltb→lt, lt→ltb}
use lib.Arith.{digits_div, digits_mod, mod-mul}
use lib.Bits.{bit_and, bit_or, bit_xor, and_shr, and_mod, or_shr, or_mod, xor_shr, xor_mod, xor_lt, xor_zero_r, and_zero_r, and_mask, and_le_l}
use lib.Pow.{pow_pos, pow_mono, shl-shr, shr-shr, high, low, mod-mod-pow, field, shl_exact}
use borrow.Author.Tests.{ltb-true, ltb-false, leb-true, leb-false, ne_eqb}
use native.Mathlib.Numerals.{one-add}
use Rattle.bits.specs.Bits.{to_bit, bit, some, number, without}
use Rattle.bits.proofs.Tests.{of-false, either, iff-eq, some-ext}

pub to_bit-lt : (b : Bool) → to_bit b < 2
to_bit-lt true = lit< tt
to_bit-lt false = lit< tt

-- a digit is 0 or 1, and so is the test of it
pub digit-to_bit : (d : ℕ) → d < 2 → to_bit (eqb d 1) ≡ d
digit-to_bit zero h = refl
digit-to_bit (suc zero) h = refl
digit-to_bit (suc (suc d)) h = absurd (omega arith)

pub eqb-to_bit : (b : Bool) → eqb (to_bit b) 1 ≡ b
eqb-to_bit true = refl
eqb-to_bit false = refl

-- the digit at place k
pub bit-digit : (x k : ℕ) → to_bit (bit x k) ≡ x / 2 ^ k % 2
unfolding bit
bit-digit x k = digit-to_bit (x / 2 ^ k % 2) (mod-lt (x / 2 ^ k) (lit< tt))

-- one more digit: the k + 1 lowest digits are the k lowest and the one at place k
pub mod-more : (x k : ℕ) → x % 2 ^ suc k ≡ x % 2 ^ k + to_bit (bit x k) * 2 ^ k
mod-more x k =
    ap (λ (m : ℕ). x % m) (pow-succ' 2 k) ∙ mod-mul x (lit< tt) (pow_pos k)
    ∙ ap (λ (d : ℕ). d * 2 ^ k + x % 2 ^ k) (sym (bit-digit x k)) ∙ add_comm (to_bit (bit x k) * 2 ^ k) (x % 2 ^ k)

-- a number's k lowest digits are the number made of its bits
pub number-bits : (k x : ℕ) → number k (bit x) ≡ x % 2 ^ k
unfolding number
number-bits zero x = sym (mod-one x)
number-bits (suc k) x = ap (λ (n : ℕ). n + to_bit (bit x k) * 2 ^ k) (number-bits k x) ∙ sym (mod-more x k)

pub number_lt : (k : ℕ) (f : ℕ → Bool) → number k f < 2 ^ k
unfolding number
number_lt zero f = lit< tt
number_lt (suc k) f = below (f k) (number_lt k f)
  where
    below : (b : Bool) → number k f < 2 ^ k → number k f + to_bit b * 2 ^ k < 2 ^ suc k
    below true h = omega (arith, two-pow-succ k, one-mul (2 ^ k))
    below false h = omega (arith, two-pow-succ k, zero-mul (2 ^ k))

pub number-ext : (k : ℕ) (f g : ℕ → Bool) → ((i : ℕ) → i < k → f i ≡ g i) → number k f ≡ number k g
unfolding number
number-ext zero f g h = refl
number-ext (suc k) f g h = ap₂ (λ (x : ℕ) (b : Bool). x + to_bit b * 2 ^ k) (number-ext k f g (λ i l. h i (le_step l))) (h k (le_refl (suc k)))

-- taking the k lowest digits keeps the bits below k
pub bit-mod : (x k i : ℕ) → i < k → bit (x % 2 ^ k) i ≡ bit x i
unfolding bit
bit-mod x k i h =
    let e : k ≡ (k - suc i + 1) + i = omega arith in
    ap (λ (m : ℕ). eqb (x % 2 ^ m / 2 ^ i % 2) 1) e
    ∙ ap (λ (n : ℕ). eqb (n % 2) 1) (field x (k - suc i + 1) i)
    ∙ ap (λ (n : ℕ). eqb n 1) (mod-mod-pow (x / 2 ^ i) (k - suc i) 1)

-- the top bit of a number that was made of bits, and the digits below it
apart : (k : ℕ) (f : ℕ → Bool) → number (suc k) f ≡ to_bit (f k) * 2 ^ k + number k f
unfolding number
apart k f = add_comm (number k f) (to_bit (f k) * 2 ^ k)

top : (k : ℕ) (f : ℕ → Bool) → bit (number (suc k) f) k ≡ f k
unfolding bit
top k f =
    ap (λ (n : ℕ). eqb (n / 2 ^ k % 2) 1) (apart k f) ∙ ap (λ (n : ℕ). eqb (n % 2) 1) (high (to_bit (f k)) k (number_lt k f))
    ∙ ap (λ (n : ℕ). eqb n 1) (mod-eq_of_lt (to_bit-lt (f k))) ∙ eqb-to_bit (f k)

-- the bits of a number that was made of bits
pub bit-number : (k : ℕ) (f : ℕ → Bool) (i : ℕ) → i < k → bit (number k f) i ≡ f i
bit-number zero f i h = absurd (not-suc-le-zero h)
bit-number (suc k) f i h =
    ⊎_elim (λ (e : i ≡ k). subst⁻¹ (λ (j : ℕ). bit (number (suc k) f) j ≡ f j) e (top k f))
    (λ (l : i < k).
    sym (bit-mod (number (suc k) f) k i l)
    ∙ ap (λ (n : ℕ). bit n i) (ap (λ (n : ℕ). n % 2 ^ k) (apart k f) ∙ low (to_bit (f k)) k (number_lt k f))
    ∙ bit-number k f i l)
    (eq-or-lt_of_le (le_of_suc-le-suc h))

-- beyond the length of a number its bits are 0
pub bit_past : (x k i : ℕ) → x < 2 ^ k → k ≤ i → bit x i ≡ false
unfolding bit
bit_past x k i h l = ap (λ (n : ℕ). eqb (n % 2) 1) (div-eq_of_lt (lt_of_lt_of_le h (pow_mono l)))

-- two numbers of k digits are the same when their bits are
pub same_bits : (k x y : ℕ) → x < 2 ^ k → y < 2 ^ k → ((i : ℕ) → i < k → bit x i ≡ bit y i) → x ≡ y
same_bits k x y hx hy h =
    sym (mod-eq_of_lt hx) ∙ sym (number-bits k x) ∙ number-ext k (bit x) (bit y) h ∙ number-bits k y ∙ mod-eq_of_lt hy

-- a number of k digits with the given bits
pub number_is : (k x : ℕ) (f : ℕ → Bool) → x < 2 ^ k → ((i : ℕ) → i < k → bit x i ≡ f i) → x ≡ number k f
number_is k x f h e = sym (mod-eq_of_lt h) ∙ sym (number-bits k x) ∙ number-ext k (bit x) f e

-- k ones
number-ones : (k : ℕ) → number k (λ (i : ℕ). true) ≡ 2 ^ k - 1
unfolding number
number-ones zero = refl
number-ones (suc k) = omega (arith, number-ones k, two-pow-succ k, pow_pos k)

pub bit-ones : (k i : ℕ) → i < k → bit (2 ^ k - 1) i ≡ true
bit-ones k i l = rw (← number-ones k) (bit-number k (λ (j : ℕ). true) i l)

-- An operation on words that goes bit by bit, as a test of two bits.
module _ (op : ℕ → ℕ → ℕ) (test : Bool → Bool → Bool) (shr : (a b k : ℕ) → op a b / 2 ^ k ≡ op (a / 2 ^ k) (b / 2 ^ k))
    (rem : (a b k : ℕ) → op a b % 2 ^ k ≡ op (a % 2 ^ k) (b % 2 ^ k)) (one : (p q : Bool) → eqb (op (to_bit p) (to_bit q)) 1 ≡ test p q) where
  pub bitwise : (a b i : ℕ) → bit (op a b) i ≡ test (bit a i) (bit b i)
  unfolding bit
  bitwise a b i =
      ap (λ (n : ℕ). eqb (n % 2) 1) (shr a b i) ∙ ap (λ (n : ℕ). eqb n 1) (rem (a / 2 ^ i) (b / 2 ^ i) 1)
      ∙ ap₂ (λ (d e : ℕ). eqb (op d e) 1) (sym (bit-digit a i)) (sym (bit-digit b i)) ∙ one (bit a i) (bit b i)

pub bit-and : (a b i : ℕ) → bit (bit_and a b) i ≡ (bit a i && bit b i)
bit-and = bitwise bit_and (λ (p q : Bool). p && q) and_shr and_mod one
  where
    one : (p q : Bool) → eqb (bit_and (to_bit p) (to_bit q)) 1 ≡ (p && q)
    one true true = refl
    one true false = refl
    one false true = refl
    one false false = refl

pub bit-or : (a b i : ℕ) → bit (bit_or a b) i ≡ (bit a i || bit b i)
bit-or = bitwise bit_or (λ (p q : Bool). p || q) or_shr or_mod one
  where
    one : (p q : Bool) → eqb (bit_or (to_bit p) (to_bit q)) 1 ≡ (p || q)
    one true true = refl
    one true false = refl
    one false true = refl
    one false false = refl

pub bit-xor : (a b i : ℕ) → bit (bit_xor a b) i ≡ cond (bit b i) (not (bit a i)) (bit a i)
bit-xor = bitwise bit_xor (λ (p q : Bool). cond q (not p) p) xor_shr xor_mod one
  where
    one : (p q : Bool) → eqb (bit_xor (to_bit p) (to_bit q)) 1 ≡ cond q (not p) p
    one true true = refl
    one true false = refl
    one false true = refl
    one false false = refl

-- what the first word has and the second has not
pub bit-without : (a b i : ℕ) → bit (without a b) i ≡ (bit a i && not (bit b i))
bit-without a b i =
    bit-xor a (bit_and a b) i ∙ ap (λ (d : Bool). cond d (not (bit a i)) (bit a i)) (bit-and a b i) ∙ taken (bit a i) (bit b i)
  where
    taken : (p q : Bool) → cond (p && q) (not p) p ≡ (p && not q)
    taken true true = refl
    taken true false = refl
    taken false q = refl

pub without-lt : (k a b : ℕ) → a < 2 ^ k → without a b < 2 ^ k
without-lt k a b h = xor_lt k a (bit_and a b) h (omega (arith, and_le_l a b))

pub without-none : (a : ℕ) → without a 0 ≡ a
without-none a = ap (bit_xor a) (and_zero_r a) ∙ xor_zero_r a

pub bit-shr : (x j i : ℕ) → bit (x / 2 ^ j) i ≡ bit x (j + i)
unfolding bit
bit-shr x j i = ap (λ (n : ℕ). eqb (n % 2) 1) (shr-shr x j i)

pub bit-shl : (x j i : ℕ) → bit (x * 2 ^ j) i ≡ (leb j i && bit x (i - j))
bit-shl x j i =
    ⊎_elim
    (λ (e : leb j i ≡ true).
    let at : i ≡ j + (i - j) = omega (arith, leb-true j i e) in
    rw e (ap (bit (x * 2 ^ j)) at ∙ sym (bit-shr (x * 2 ^ j) j (i - j)) ∙ ap (λ (n : ℕ). bit n (i - j)) (shl-shr x j)))
    (λ (e : leb j i ≡ false).
    rw e
    (sym (bit-mod (x * 2 ^ j) j i (leb-false j i e)) ∙ ap (λ (n : ℕ). bit n i) (mul-mod_left x (2 ^ j)) ∙ bit_past 0 0 i (lit< tt) zero-le))
    (either (leb j i))

-- the top bit of a number of k + 1 digits
pub bit-top : (x k : ℕ) → x < 2 ^ suc k → bit x k ≡ leb (2 ^ k) x
unfolding bit
bit-top x k h = ⊎_elim high_half low_half (either (leb (2 ^ k) x))
  where
    high_half : leb (2 ^ k) x ≡ true → eqb (x / 2 ^ k % 2) 1 ≡ leb (2 ^ k) x
    high_half e =
        let q : x / 2 ^ k ≡ 1 =
        div-eq_of_lt-le (2 ^ k) (omega (arith, one-mul (2 ^ k), leb-true (2 ^ k) x e)) (omega (arith, two-pow-succ k, add-mul 1 1 (2 ^ k))) in
        ap (λ (n : ℕ). eqb (n % 2) 1) q ∙ sym e

    low_half : leb (2 ^ k) x ≡ false → eqb (x / 2 ^ k % 2) 1 ≡ leb (2 ^ k) x
    low_half e = ap (λ (n : ℕ). eqb (n % 2) 1) (div-eq_of_lt (leb-false (2 ^ k) x e)) ∙ sym e

-- doubling moves each bit up by one
pub bit-double : (x b i : ℕ) → b < 2 → bit (x * 2 + b) (suc i) ≡ bit x i
bit-double x b i h =
    ap (bit (x * 2 + b)) (sym (one-add i)) ∙ sym (bit-shr (x * 2 + b) 1 i) ∙ ap (λ (n : ℕ). bit n i) (digits_div x h)

pub bit-low : (x b : ℕ) → b < 2 → bit (x * 2 + b) 0 ≡ eqb b 1
unfolding bit
bit-low x b h = ap (λ (n : ℕ). eqb (n % 2) 1) (div-one (x * 2 + b)) ∙ ap (λ (n : ℕ). eqb n 1) (digits_mod x h)

-- ---- what shifts of a word compute

-- 1 shifted left by k, at width w
pub shifted_one : (k w : ℕ) → k < w → (1 * 2 ^ k) % 2 ^ w ≡ 2 ^ k
shifted_one k w h = shl_exact 1 k w (lit< tt) (omega arith) ∙ one-mul (2 ^ k)

-- at most the word of k ones is below 2 ^ k
pub le-ones-lt : (k x : ℕ) → leb x (2 ^ k - 1) ≡ ltb x (2 ^ k)
le-ones-lt k x =
    iff-eq (leb x (2 ^ k - 1)) (ltb x (2 ^ k)) (λ h. lt→ltb x (2 ^ k) (omega (arith, leb→le x (2 ^ k - 1) h, pow_pos k)))
    (λ h. le→leb x (2 ^ k - 1) (omega (arith, ltb→lt x (2 ^ k) h)))

-- a number is not 0 when some bit is set
pub number-some : (k : ℕ) (f : ℕ → Bool) → not (eqb (number k f) 0) ≡ some k f
unfolding number some
number-some zero f = refl
number-some (suc k) f = more (f k) (number-some k f)
  where
    more : (b : Bool) → not (eqb (number k f) 0) ≡ some k f → not (eqb (number k f + to_bit b * 2 ^ k) 0) ≡ (some k f || b)
    more true ih = rw or-true (ap not (ne_eqb (number k f + 1 * 2 ^ k) 0 (λ e. omega (arith, one-mul (2 ^ k), pow_pos k))))
    more false ih = rw (zero-mul (2 ^ k), add-zero, or-false) ih

-- a number of one bit is that bit
pub number-one : (f : ℕ → Bool) → eqb (number 1 f) 1 ≡ f 0
unfolding number
number-one f = by (f 0)
  where
    by : (b : Bool) → eqb (0 + to_bit b * 2 ^ 0) 1 ≡ b
    by true = refl
    by false = refl

-- a number of no set bits
pub number-none : (k : ℕ) (f : ℕ → Bool) → ((i : ℕ) → i < k → f i ≡ false) → number k f ≡ 0
number-none k f h = sym (number_is k 0 f (pow_pos k) (λ i l. bit_past 0 0 i (lit< tt) zero-le ∙ sym (h i l)))

-- a bit is set only where it was asked for
pub bit-holds : (k : ℕ) (f : ℕ → Bool) (i : ℕ) → T (bit (number k f) i) → T (f i)
bit-holds k f i t =
    ⊎_elim (λ (e : ltb i k ≡ true). rw (bit-number k f i (ltb-true i k e)) at t)
    (λ (e : ltb i k ≡ false). absurd (of-false (bit_past (number k f) k i (number_lt k f) (ltb-false i k e)) t)) (either (ltb i k))

-- ---- what remainders and masks of a word compute

pub bit-zero : (x : ℕ) → eqb (x % 2) 1 ≡ bit x 0
unfolding bit
bit-zero x = ap (λ (n : ℕ). eqb (n % 2) 1) (sym (div-one x))

-- the k lowest bits that two words share
pub and_low : (a b m k : ℕ) → m ≡ 2 ^ k - 1 → bit_and (bit_and a b) m ≡ number k (λ (j : ℕ). bit a j && bit b j)
and_low a b m k e =
    ap (bit_and (bit_and a b)) e ∙ and_mask (bit_and a b) k ∙ sym (number-bits k (bit_and a b))
    ∙ number-ext k (bit (bit_and a b)) (λ (j : ℕ). bit a j && bit b j) (λ j _. bit-and a b j)

bit-twice : (x i : ℕ) → bit (x * 2) (suc i) ≡ bit x i
bit-twice x i = ap (λ (n : ℕ). bit n (suc i)) (sym (add-zero (x * 2))) ∙ bit-double x 0 i (lit< tt)

bit-even : (x : ℕ) → bit (x * 2) 0 ≡ false
bit-even x = ap (λ (n : ℕ). bit n 0) (sym (add-zero (x * 2))) ∙ bit-low x 0 (lit< tt)

-- where the first test does not hold, only the others count
later : (k : ℕ) (f : ℕ → Bool) → f 0 ≡ false → some (suc k) f ≡ some k (λ (j : ℕ). f (suc j))
unfolding some
later zero f e = e
later (suc k) f e = ap (λ (b : Bool). b || f (suc k)) (later k f e)

-- A doubled word shares a bit with another when that has the bit above some bit of the word.
pub shared-some : (k w m : ℕ) → w < 2 ^ k → not (eqb (bit_and (w * 2) m) 0) ≡ some k (λ (j : ℕ). bit w j && bit m (suc j))
shared-some k w m low =
    let small : w * 2 < 2 ^ suc k = omega (arith, two-pow-succ k) in
    ap (λ (x : ℕ). not (eqb x 0)) (number_is (suc k) shared (bit shared) (lt_of_le_of_lt (and_le_l (w * 2) m) small) (λ i l. refl))
    ∙ number-some (suc k) (bit shared) ∙ later k (bit shared) (rw (bit-and, bit-even) refl)
    ∙ some-ext k (λ (j : ℕ). bit shared (suc j)) (λ (j : ℕ). bit w j && bit m (suc j)) (λ j l. rw (bit-and, bit-twice) refl)
  where
    shared : ℕ
    shared = bit_and (w * 2) m
