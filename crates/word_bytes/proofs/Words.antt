-- Laws of words in bytes: the library's words for them say the same. Assumes nothing.
use Rattle.std.proofs.Common.{◌≡◌, ℕ, zero, suc, ◌/◌, ◌%◌, ◌^◌, List, [], ◌∷◌, length, refl, sym, ap, ◌∙◌, arith}
use native.Mathlib.Nat.{div-div-eq-div-mul, pow-suc, div-one}
use Rattle.std.specs.Int.{w64, to_le_bytes, from_le_bytes}
use Rattle.word_bytes.specs.Bytes.{word_of, bytes_of}

-- the word that eight bytes hold
pub word_is : (l : List ℕ) → length l ≡ 8 → from_le_bytes w64 l ≡ word_of l
unfolding word_of
word_is (b0 ∷ b1 ∷ b2 ∷ b3 ∷ b4 ∷ b5 ∷ b6 ∷ b7 ∷ []) h = omega arith
word_is _ h = absurd (omega arith)

-- the bytes i to i + k - 1 of a word, as the library has all but the first
abbrev at_bytes : ℕ → ℕ → ℕ → List ℕ
at_bytes i zero n = []
at_bytes i (suc k) n = n / 256 ^ i % 256 ∷ at_bytes (suc i) k n

low_first : (i k n : ℕ) → at_bytes i k n ≡ bytes_of k (n / 256 ^ i)
unfolding bytes_of
low_first i zero n = refl
low_first i (suc k) n =
    ap (λ (l : List ℕ). n / 256 ^ i % 256 ∷ l)
    (low_first (suc i) k n ∙ ap (bytes_of k) (ap (λ (d : ℕ). n / d) (pow-suc 256 i) ∙ sym (div-div-eq-div-mul n (256 ^ i) 256)))

-- the bytes of a word
pub bytes_are : (n : ℕ) → to_le_bytes w64 n ≡ bytes_of 8 n
bytes_are n =
    ap (λ (b : ℕ). b % 256 ∷ at_bytes 1 7 n) (sym (div-one n)) ∙ low_first 0 8 n ∙ ap (bytes_of 8) (div-one n)
